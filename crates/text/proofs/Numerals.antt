-- Numerals: what makes a field one, and the number that its digits stand for.
use mathlib.Core.Path.{◌≡◌, refl, ap, ◌∙◌}
use mathlib.Core.Bool.{Bool, true, false, cond, not, ◌&&◌, ◌||◌}
use mathlib.Core.List.{List, [], ◌∷◌}
use mathlib.Core.Option.{some}
use Prim.Native.Nat.{ℕ, ◌+◌, ◌-◌, ◌*◌, ◌^◌, ◌≤◌, ◌<◌, zero-le}
use native.Mathlib.Nat.{not-suc-le-zero, pow-suc, pow-le-pow_right}
use native.Mathlib.Decide.{dec_le}
use native.Mathlib.Numerals.{add-one}
use native.Mathlib.Omega.{arith}
use lib.Dec.{leb, eqb, lit<}
use lib.ListN.{length, get_or, drop, drop_of_length-le}
use lib.Seq.{drop-cons}
use borrow.Author.Tests.{le-leb, lt-leb, ne_eqb}
use Rattle.text.specs.Numeral.{most_digits, constant_limit, is_digit, all_digits, leads, is_numeral, digits_after, numeral}
use Rattle.text.specs.Value.{limited, numeral_value}
use Rattle.text.specs.declared.Numeral.TheVariants.{Malformed, Large, Value}

-- ---- the first digit

pub leads_alone : (l : List ℕ) → 0 < length l → length l < 2 → true ≡ leads l
unfolding leads
leads_alone [] h k = absurd (not-suc-le-zero h)
leads_alone (b ∷ []) h k = go (eqb b 48)
  where
    go : (t : Bool) → true ≡ (not t || true)
    go true = refl
    go false = refl
leads_alone (b ∷ c ∷ l) h k = absurd (omega arith)

pub leads_others : (l : List ℕ) → 2 ≤ length l → not (eqb (get_or l 0 0) 48) ≡ leads l
unfolding leads
leads_others [] h = absurd (not-suc-le-zero h)
leads_others (b ∷ l) h = rw (ne_eqb (length l) 0 (λ e. omega arith)) (go (eqb b 48))
  where
    go : (t : Bool) → not t ≡ (not t || false)
    go true = refl
    go false = refl

-- ---- one digit: d is b's value, or more than 9

pub digit_taken : (b d : ℕ) → (b < 48 → 9 < d) → (48 ≤ b → d ≡ b - 48) → d ≤ 9 → (is_digit b ≡ true) × (d ≡ b - 48)
unfolding is_digit
digit_taken b d low high h = go (dec_le 48 b)
  where
    go : Dec (48 ≤ b) → ((leb 48 b && leb b 57) ≡ true) × (d ≡ b - 48)
    go (yes k) = let e = high k in (rw (le-leb 48 b k, le-leb b 57 (omega arith)), e)
    go (no n) = let k = low (omega arith) in absurd (omega arith)

pub digit_broken : (b d : ℕ) → (48 ≤ b → d ≡ b - 48) → 9 < d → is_digit b ≡ false
unfolding is_digit
digit_broken b d high h = go (dec_le 48 b)
  where
    go : Dec (48 ≤ b) → (leb 48 b && leb b 57) ≡ false
    go (yes k) = let e = high k in rw (le-leb 48 b k, lt-leb b 57 (omega arith))
    go (no n) = rw (lt-leb 48 b (omega arith))

-- ---- the digits read so far

-- the first i bytes of l are digits, and stand for v
pub record Digits (l : List ℕ) (v i : ℕ) : Type 0 where
  pub within : i ≤ length l
  pub small : v < 10 ^ i
  pub ahead : all_digits l ≡ all_digits (drop i l)
  pub value : digits_after 0 l ≡ digits_after v (drop i l)

pub digits_none : (l : List ℕ) → Digits l 0 0
digits_none l = record { within = zero-le; small = lit< tt; ahead = refl; value = refl }

pub digits_more : {l : List ℕ} {v i d : ℕ} → Digits l v i → i < length l → d ≤ 9 → (is_digit (get_or l i 0) ≡ true) × (d ≡ get_or l i 0 - 48)
    → Digits l (v * 10 + d) (i + 1)
unfolding all_digits digits_after
digits_more {l} {v} {i} {d} r h k e =
    record {
      within = omega arith;
      small = rw (add-one, pow-suc) (omega arith);
      ahead = r.ahead ∙ ap all_digits (drop-cons l i 0 h) ∙ rw (add-one, e.0);
      value = r.value ∙ ap (digits_after v) (drop-cons l i 0 h) ∙ rw (add-one, e.1);
    }

pub digits_broken : {l : List ℕ} {v i : ℕ} → Digits l v i → i < length l → is_digit (get_or l i 0) ≡ false → all_digits l ≡ false
unfolding all_digits
digits_broken {l} {v} {i} r h e = r.ahead ∙ ap all_digits (drop-cons l i 0 h) ∙ rw e

pub digits_all : {l : List ℕ} {v i : ℕ} → Digits l v i → length l ≤ i → (all_digits l ≡ true) × (digits_after 0 l ≡ v)
unfolding all_digits digits_after
digits_all {l} {v} {i} r h =
    (r.ahead ∙ ap all_digits (drop_of_length-le l h), r.value ∙ ap (digits_after v) (drop_of_length-le l h))

-- behind eighteen digits one more still fits a word of 64 bits
pub digits_fit : {l : List ℕ} {v i : ℕ} → Digits l v i → i ≤ 18 → v < 10 ^ 18
digits_fit {l} {v} {i} r h = omega (arith, r.small, pow-le-pow_right {n = 10} (lit< tt) h)

-- ---- the whole field

and_false : (a b : Bool) → b ≡ false → (a && b) ≡ false
and_false true b e = e
and_false false b e = refl

malformed : (l : List ℕ) → is_numeral l ≡ false → Malformed ≡ numeral_value l
unfolding numeral_value limited numeral
malformed l e = rw e

pub no_digit : (l : List ℕ) → all_digits l ≡ false → Malformed ≡ numeral_value l
unfolding is_numeral
no_digit l e = malformed l (rw e)

pub badly_led : (l : List ℕ) → leads l ≡ false → Malformed ≡ numeral_value l
unfolding is_numeral
badly_led l e = malformed l (and_false (all_digits l) (leads l && leb (length l) most_digits) (rw e))

pub too_long : (l : List ℕ) → most_digits < length l → Malformed ≡ numeral_value l
unfolding is_numeral
too_long l h =
    malformed l
    (and_false (all_digits l) (leads l && leb (length l) most_digits)
    (and_false (leads l) (leb (length l) most_digits) (lt-leb (length l) most_digits h)))

pub no_byte : (l : List ℕ) → length l ≡ 0 → Malformed ≡ numeral_value l
unfolding leads
no_byte [] e = badly_led [] refl
no_byte (b ∷ l) e = absurd (omega arith)

pub numeral_is : (l : List ℕ) → all_digits l ≡ true → leads l ≡ true → length l ≤ most_digits → numeral l ≡ some (digits_after 0 l)
unfolding numeral is_numeral
numeral_is l d f h = rw (d, f, le-leb (length l) most_digits h)

-- the digits of a field that leads well stand for its value
pub valued : (l : List ℕ) (v : ℕ) → leads l ≡ true → length l ≤ most_digits → (all_digits l ≡ true) × (digits_after 0 l ≡ v)
    → limited (some v) ≡ numeral_value l
unfolding numeral_value
valued l v f h d = rw (numeral_is l d.0 f h, d.1)

-- ---- a number, with a mark where it is past the limit

-- every number of 64 bits is within the limit of constants, and so is every other limit
pub word_within : (n : ℕ) → n < 2 ^ 64 → n ≤ constant_limit
unfolding constant_limit
word_within n h = omega arith

-- what is within it has no more digits than a numeral may have
pub limit_digits : (n : ℕ) → n ≤ constant_limit → n < 10 ^ most_digits
unfolding constant_limit
limit_digits n h = omega arith

pub past : (n : ℕ) → constant_limit < n → Large ≡ limited (some n)
unfolding limited
past n h = rw (lt-leb n constant_limit h)

pub within_limit : (n : ℕ) → n ≤ constant_limit → Value n ≡ limited (some n)
unfolding limited
within_limit n h = rw (le-leb n constant_limit h)

pub value_is : (n v : ℕ) → limited (some n) ≡ Value v → n ≡ v
unfolding limited
value_is n v e = go (leb n constant_limit) e
  where
    go : (t : Bool) → cond t (Value n) Large ≡ Value v → n ≡ v
    go true e = cc
    go false e = let z : ◌≡◌ {A = ℕ} 0 1 = cc in absurd (omega arith)
