-- The bits of a number, and that they are all there is to it.
use mathlib.Core.Path.{◌≡◌, sym, ap, ◌∙◌}
use mathlib.Core.Logic.{◌↔◌, ◌⊎◌, inl, inr, ⊎_elim}
use mathlib.Core.Bool.{true, false}
use Prim.Native.Nat.{ℕ, zero, suc, ◌+◌, ◌-◌, ◌/◌, ◌%◌, ◌^◌, ◌≤◌, ◌<◌, suc-le-suc}
use native.Mathlib.Nat.{zero-div, div-one, div-eq_of_lt, eq-zero-or-pos, pow-suc, lt_of_lt_of_le}
use native.Mathlib.Decide.{dec_lt}
use native.Mathlib.Numerals.{one-add}
use native.Mathlib.Omega.{arith}
use borrow.Author.Tests.{eq-eqb, ne_eqb}
use lib.Pow.{shr-shr, field, mod-mod-pow, pow_mono}
use Rattle.words.specs.Bits.{bit, is_set}

pub bit_le_one : (n k : ℕ) → bit n k ≤ 1
bit_le_one n k = omega arith

pub bit_cases : (n k : ℕ) → (bit n k ≡ 0) ⊎ (bit n k ≡ 1)
bit_cases n k = ⊎_elim (λ e. inl e) (λ p. inr (omega arith)) (eq-zero-or-pos (bit n k))

pub is_set_lem : (n k : ℕ) → bit n k ≡ 1 → is_set n k ≡ true
is_set_lem n k e = eq-eqb (bit n k) 1 e

pub is_clear : (n k : ℕ) → bit n k ≡ 0 → is_set n k ≡ false
is_clear n k e = ne_eqb (bit n k) 1 (λ f. omega arith)

pub bit_zero : (k : ℕ) → bit 0 k ≡ 0
bit_zero k = rw zero-div

-- no bit is set at a number's width or above
pub bit_beyond : {n : ℕ} (k : ℕ) → n < 2 ^ k → bit n k ≡ 0
bit_beyond k h = rw (div-eq_of_lt h)

-- ---- the lowest bit, and the others

pub bit_lowest : (n : ℕ) → bit n 0 ≡ n % 2
bit_lowest n = rw div-one

pub bit_half : (n k : ℕ) → bit (n / 2) k ≡ bit n (suc k)
bit_half n k = rw (shr-shr n 1 k, one-add)

pub half_below : (w : ℕ) {n : ℕ} → n < 2 ^ suc w → n / 2 < 2 ^ w
half_below w h = omega (arith, pow-suc 2 w)

-- a word is determined by its bits below its width
pub bits_ext : (w a b : ℕ) → a < 2 ^ w → b < 2 ^ w → ((k : ℕ) → k < w → bit a k ≡ bit b k) → a ≡ b
bits_ext zero a b ha hb same = omega arith
bits_ext (suc w) a b ha hb same =
    let halves : a / 2 ≡ b / 2 =
    bits_ext w (a / 2) (b / 2) (half_below w ha) (half_below w hb)
    (λ k h. bit_half a k ∙ same (suc k) (suc-le-suc h) ∙ sym (bit_half b k))
    in
    let lowest : a % 2 ≡ b % 2 = sym (bit_lowest a) ∙ same 0 (omega arith) ∙ bit_lowest b in omega arith

-- the low m bits of a number are its own
pub bit_mod : (n m k : ℕ) → k < m → bit (n % 2 ^ m) k ≡ bit n k
bit_mod n m k h =
    let d = m - suc k in
    let width : m ≡ d + 1 + k = omega arith in
    ap (λ (x : ℕ). bit (n % 2 ^ x) k) width ∙ ap (λ (x : ℕ). x % 2) (field n (d + 1) k) ∙ mod-mod-pow (n / 2 ^ k) d 1

-- every word has some width
pub below_power : (n : ℕ) → n < 2 ^ n
below_power zero = omega arith
below_power (suc n) = omega (arith, below_power n)

-- a word of w bits has no bit behind them
pub bit_within : {n : ℕ} (w k : ℕ) → n < 2 ^ w → bit n k ≡ 1 → k < w
bit_within {n} w k small e = go (dec_lt k w)
  where
    go : Dec (k < w) → k < w
    go (yes h) = h
    go (no h) = absurd (omega (arith, bit_beyond {n = n} k (lt_of_lt_of_le small (pow_mono (omega arith)))))

-- words whose bits are set together are equal
pub same_bits : (w a b : ℕ) → a < 2 ^ w → b < 2 ^ w → ((k : ℕ) → (bit a k ≡ 1) ↔ (bit b k ≡ 1)) → a ≡ b
same_bits w a b ha hb h =
    bits_ext w a b ha hb (λ k l.
    ⊎_elim
    (λ e. ⊎_elim (λ f. e ∙ sym f) (λ f. absurd (omega (arith, (h k).1 f))) (bit_cases b k))
    (λ e. e ∙ sym ((h k).0 e)) (bit_cases a k))
