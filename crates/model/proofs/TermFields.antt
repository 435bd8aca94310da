-- A field is read as a term by its first byte, the mark, and the numeral behind it.
use mathlib.Core.Path.{◌≡◌, refl, sym, subst⁻¹}
use mathlib.Core.Bool.{Bool, true, false, cond}
use mathlib.Core.List.{List, [], ◌∷◌}
use mathlib.Core.Option.{Option, none, some}
use Prim.Native.Nat.{ℕ, ◌≤◌, ◌<◌}
use native.Mathlib.Nat.{not-suc-le-zero}
use native.Mathlib.Omega.{arith}
use lib.Dec.{leb, eqb, lit<}
use lib.ListN.{length, get_or, drop}
use borrow.Author.Tests.{leb-true, leb-false, lt-leb}
use Rattle.theory.specs.Query.{Term, constant, shown, hidden}
use Rattle.text.specs.Numeral.{numeral, constant_limit}
use Rattle.text.specs.Value.{limited, numeral_value}
use Rattle.text.proofs.Numerals.{word_within}
use Rattle.text.specs.declared.Numeral.{Numeral}
use Rattle.text.specs.declared.Numeral.TheVariants.{Malformed, Large, Value}
use Rattle.model.specs.declared.Field.{Field}
use Rattle.model.specs.declared.Field.TheVariants.{Malformed as MalformedField, Outside, Within}
use Rattle.model.specs.Fields.{constant_byte, shown_byte, hidden_byte, mapped, term}
use Rattle.model.specs.Limits.{last_variable, term_within}
use Rattle.model.specs.Value.{term_value}
use Rattle.model.specs.Parsed.{field_value}
use Rattle.model.specs.Marks.{mark_of, number_within}

-- what the field says by its mark and its numeral
abbrev pub marked : ℕ → Numeral → Field
marked mark Malformed = MalformedField
marked mark Large = Outside
marked mark (Value n) = cond (number_within mark n) (Within (record { mark = mark; number = n })) Outside

pub value_within : (mark n : ℕ) → number_within mark n ≡ true → Within (record { mark = mark; number = n }) ≡ marked mark (Value n)
value_within mark n e = rw e

pub value_outside : (mark n : ℕ) → number_within mark n ≡ false → Outside ≡ marked mark (Value n)
value_outside mark n e = rw e

-- a number past every limit is past that of variables
large : (n : ℕ) → leb n constant_limit ≡ false → leb n last_variable ≡ false
large n e = lt-leb n last_variable (omega (arith, leb-false n constant_limit e, word_within last_variable (lit< tt)))

constant_read : (o : Option ℕ) → field_value (mapped constant o) ≡ marked 1 (limited o)
unfolding field_value mapped limited term_within term_value number_within
constant_read none = refl
constant_read (some n) = go (leb n constant_limit)
  where
    go : (t : Bool) → cond t (Within (term_value (constant n))) Outside ≡ marked 1 (cond t (Value n) Large)
    go true = refl
    go false = refl

variable_within : (n mark : ℕ) → eqb mark 1 ≡ false → (t : Bool) → leb n constant_limit ≡ t
    → cond (leb n last_variable) (Within (record { mark = mark; number = n })) Outside ≡ marked mark (cond t (Value n) Large)
unfolding number_within
variable_within n mark other true e = rw other
variable_within n mark other false e = rw (large n e)

shown_read : (o : Option ℕ) → field_value (mapped shown o) ≡ marked 2 (limited o)
unfolding field_value mapped limited term_within term_value
shown_read none = refl
shown_read (some n) = variable_within n 2 refl (leb n constant_limit) refl

hidden_read : (o : Option ℕ) → field_value (mapped hidden o) ≡ marked 3 (limited o)
unfolding field_value mapped limited term_within term_value
hidden_read none = refl
hidden_read (some n) = variable_within n 3 refl (leb n constant_limit) refl

-- ---- by the first byte: whether it is `#`, `!` or `?`

abbrev mark_by : Bool → Bool → Bool → ℕ
mark_by x y z = cond x 1 (cond y 2 (cond z 3 0))

abbrev term_by : Bool → Bool → Bool → Option ℕ → Option Term
term_by x y z o = cond x (mapped constant o) (cond y (mapped shown o) (cond z (mapped hidden o) none))

unmarked : (x y z : Bool) (o : Option ℕ) → mark_by x y z ≡ 0 → MalformedField ≡ field_value (term_by x y z o)
unfolding field_value
unmarked true y z o e = absurd (omega arith)
unmarked false true z o e = absurd (omega arith)
unmarked false false true o e = absurd (omega arith)
unmarked false false false o e = refl

by_mark : (x y z : Bool) (o : Option ℕ) → (mark_by x y z ≡ 0 → ⊥) → marked (mark_by x y z) (limited o) ≡ field_value (term_by x y z o)
by_mark true y z o f = sym (constant_read o)
by_mark false true z o f = sym (shown_read o)
by_mark false false true o f = sym (hidden_read o)
by_mark false false false o f = absurd (f refl)

-- ---- a whole field

pub empty_read : (l : List ℕ) → length l ≡ 0 → MalformedField ≡ field_value (term l)
unfolding term field_value
empty_read [] e = refl
empty_read (b ∷ l) e = absurd (omega arith)

pub unmarked_read : (l : List ℕ) → 0 < length l → mark_of (get_or l 0 0) ≡ 0 → MalformedField ≡ field_value (term l)
unfolding term mark_of
unmarked_read [] h e = absurd (not-suc-le-zero h)
unmarked_read (b ∷ l) h e = unmarked (eqb b constant_byte) (eqb b shown_byte) (eqb b hidden_byte) (numeral l) e

pub marked_read : (l : List ℕ) → 0 < length l → (mark_of (get_or l 0 0) ≡ 0 → ⊥)
    → marked (mark_of (get_or l 0 0)) (numeral_value (drop 1 l)) ≡ field_value (term l)
unfolding term mark_of numeral_value
marked_read [] h f = absurd (not-suc-le-zero h)
marked_read (b ∷ l) h f = by_mark (eqb b constant_byte) (eqb b shown_byte) (eqb b hidden_byte) (numeral l) f

-- ---- what the value of a field says of the term

abbrev pub Says : Field → Option Term → Type 0
Says MalformedField o = o ≡ none
Says Outside o = (u : Term) × (o ≡ some u) × (term_within u ≡ false)
Says (Within t) o = (u : Term) × (o ≡ some u) × (term_within u ≡ true) × (t ≡ term_value u)

says : (o : Option Term) → Says (field_value o) o
unfolding field_value
says none = refl
says (some u) = go (term_within u) refl
  where
    go : (t : Bool) → term_within u ≡ t → Says (cond t (Within (term_value u)) Outside) (some u)
    go true e = (u, refl, e, refl)
    go false e = (u, refl, e)

pub field_says : {f : Field} (o : Option Term) → f ≡ field_value o → Says f o
field_says o e = subst⁻¹ (λ (f : Field). Says f o) e (says o)

-- a variable within the limits has a bit in a word
pub variable_small : (u : Term) → term_within u ≡ true → 1 < (term_value u).mark → (term_value u).number ≤ last_variable
unfolding term_within term_value
variable_small (constant c) e h = absurd (omega arith)
variable_small (shown n) e h = leb-true n last_variable e
variable_small (hidden n) e h = leb-true n last_variable e
