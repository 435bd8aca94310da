-- Digits between two places of a text, and the numeral that they are.
use mathlib.Core.Path.{◌≡◌, refl, sym, ◌∙◌}
use mathlib.Core.Bool.{true}
use mathlib.Core.List.{List, [], ◌∷◌, ◌++◌}
use Prim.Native.Nat.{ℕ, ◌+◌, ◌-◌, ◌*◌, ◌/◌, ◌%◌, ◌≤◌, ◌<◌}
use native.Mathlib.Decide.{dec_le}
use native.Mathlib.Omega.{arith}
use borrow.Author.Tests.{ne_eqb}
use lib.Dec.{T}
use lib.Ieee.Bits.{is_true}
use lib.ListN.{length, get_or, length-append}
use mir.Facts.{and_yes, yes_and}
use Rattle.words.proofs.Answers.{true_holds}
use Rattle.text.specs.Numeral.{most_digits, constant_limit, is_digit, all_digits, leads, digits_after}
use Rattle.text.specs.Print.{digit}
use Rattle.text.proofs.Decimals.{after_last, decimal_one, decimal_more, numeral_iff}
use Rattle.text.proofs.Numerals.{word_within, numeral_is, leads_alone, leads_others}
use Rattle.scan.specs.Places.{DigitsBetween, NumeralThere}
use Rattle.scan.proofs.Places.{between_none, between_one, between_two, between_both, between_first}

-- ---- one digit more

all_last : (l : List ℕ) (b : ℕ) → T (all_digits l) → T (is_digit b) → T (all_digits (l ++ b ∷ []))
unfolding all_digits
all_last [] b h d = yes_and (is_digit b) true d tt
all_last (x ∷ l) b h d =
    let k = and_yes (is_digit x) (all_digits l) h in yes_and (is_digit x) (all_digits (l ++ b ∷ [])) k.0 (all_last l b k.1 d)

module _ {text : List ℕ} where
  pub no_digits : (at : ℕ) → at ≤ length text → DigitsBetween text at at 0
  unfolding all_digits digits_after
  no_digits at h = record { digits = []; there = between_none at h; all = tt; few = omega arith; stand = refl }

  pub more_digits : {at end v d : ℕ} → DigitsBetween text at end v → end < length text → end < at + most_digits
      → (is_digit (get_or text end 0) ≡ true) × (d ≡ get_or text end 0 - 48) → DigitsBetween text at (end + 1) (v * 10 + d)
  more_digits {at} {end} {v} {d} r h few e =
      let b = get_or text end 0 in
      record {
        digits = r.digits ++ b ∷ [];
        there = between_both r.there (between_one end b h refl);
        all = all_last r.digits b r.all (true_holds e.0);
        few = simp length-append (omega (arith, r.there.long));
        stand = after_last 0 r.digits b ∙ rw (r.stand, e.1);
      }

  -- ---- a numeral

  module _ {at end v : ℕ} (r : DigitsBetween text at end v) (within : v ≤ constant_limit) where
    led : leads r.digits ≡ true → NumeralThere text at (record { value = v; end = end })
    led l =
        let n = numeral_is r.digits (is_true (all_digits r.digits) r.all) l r.few in
        let d = (numeral_iff r.digits v).0 (n ∙ rw r.stand) in
        record { there = rw d.1 at r.there; within = within }

    pub one_digit : end ≡ at + 1 → NumeralThere text at (record { value = v; end = end })
    one_digit e = led (sym (leads_alone r.digits (omega (arith, r.there.long)) (omega (arith, r.there.long))))

    pub many_digits : (end ≡ at → ⊥) → (end ≡ at + 1 → ⊥) → (get_or text at 0 ≡ 48 → ⊥)
        → NumeralThere text at (record { value = v; end = end })
    many_digits f g z =
        let long : 2 ≤ length r.digits = omega (arith, r.there.long) in
        led (sym (leads_others r.digits long) ∙ rw (between_first r.there (omega arith), ne_eqb (get_or text at 0) 48 z))

  -- ---- a table's number of one digit or two

  module _ (at d : ℕ) (first : 1 ≤ d) (last : d ≤ 9) (here : at < length text) (is : get_or text at 0 ≡ digit d) where
    pub table_one : NumeralThere text at (record { value = d; end = at + 1 })
    table_one =
        record {
          there = rw (decimal_one d (omega arith)) (between_one at (digit d) here is);
          within = word_within d (omega arith);
        }

    pub table_two : (e : ℕ) → e ≤ 9 → at + 1 < length text → get_or text (at + 1) 0 ≡ digit e
        → NumeralThere text at (record { value = d * 10 + e; end = at + 2 })
    table_two e small next is' =
        let tens : (d * 10 + e) / 10 ≡ d = omega arith in
        let ones : (d * 10 + e) % 10 ≡ e = omega arith in
        record {
          there =
              rw (decimal_more (d * 10 + e) (omega arith), tens, ones, decimal_one d (omega arith))
              (between_two at (digit d) (digit e) next is is');
          within = word_within (d * 10 + e) (omega arith);
        }

-- a byte of a value below 10 is that digit
pub digit_byte : (b d : ℕ) → (b < 48 → 9 < d) → (48 ≤ b → d ≡ b - 48) → d ≤ 9 → b ≡ digit d
unfolding digit
digit_byte b d low high h = go (dec_le 48 b)
  where
    go : Dec (48 ≤ b) → b ≡ 48 + d
    go (yes k) = omega (arith, high k)
    go (no n) = absurd (omega (arith, low (omega arith)))
