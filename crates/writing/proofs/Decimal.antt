-- Numerals: how long they are, and their digits written one behind the other.
use mathlib.Core.List.{List, [], ◌∷◌}
use Prim.Native.Nat.{ℕ, ◌+◌, ◌-◌, ◌^◌, ◌/◌, ◌%◌, ◌≤◌, ◌<◌}
use native.Mathlib.Omega.{arith}
use lib.ListN.{length}
use Rattle.text.specs.Print.{digit, decimal}
use Rattle.text.proofs.Decimals.{decimal_one, decimal_more, length_iff}
use Rattle.writing.specs.Wrote.{most_word_digits, Wrote}
use Rattle.writing.proofs.Wrote.{wrote_more}

pub length_word : (n : ℕ) → n < 2 ^ 64 → length (decimal n) ≤ most_word_digits
length_word n h = (length_iff (most_word_digits - 1) n).0 (omega arith)

-- ---- digits written

pub wrote_digit : {a b : List ℕ} {i j n : ℕ} → n < 10 → Wrote a i ((48 + n) ∷ []) b j → Wrote a i (decimal n) b j
unfolding digit
wrote_digit {n = n} h w = rw (decimal_one n h) w

pub wrote_digits : {a b c : List ℕ} {i j k n : ℕ} → 10 ≤ n → Wrote a i (decimal (n / 10)) b j → Wrote b j ((48 + n % 10) ∷ []) c k
    → Wrote a i (decimal n) c k
unfolding digit
wrote_digits {n = n} h v w = rw (decimal_more n h) (wrote_more v w)
