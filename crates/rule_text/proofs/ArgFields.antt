-- A field is read as a term: a name is a variable, and what is no name may be a numeral.
use mathlib.Core.Path.{◌≡◌, refl, subst⁻¹}
use mathlib.Core.Bool.{Bool, true, false, cond}
use mathlib.Core.List.{List}
use mathlib.Core.Option.{Option, none, some}
use Prim.Native.Nat.{ℕ}
use lib.Dec.{leb}
use Rattle.text.specs.Numeral.{numeral, constant_limit}
use Rattle.text.specs.Value.{limited, numeral_value}
use Rattle.text.specs.declared.Numeral.{Numeral}
use Rattle.text.specs.declared.Numeral.TheVariants.{Malformed, Large, Value}
use Rattle.model.specs.Fields.{mapped}
use Rattle.model.specs.Value.{term_value}
use Rattle.model.specs.declared.Field.{Field}
use Rattle.model.specs.declared.Field.TheVariants.{Malformed as MalformedField, Outside, Within}
use Rattle.rules.specs.Rule.{Arg, number}
use Rattle.rules.specs.Text.{lower, is_name, arg_of}
use Rattle.rules.specs.Checks.{arg_within}
use Rattle.rule_text.specs.Keys.{key, keyed}
use Rattle.rule_text.specs.Atoms.{arg_field}

pub variable_read : (f : List ℕ) → is_name lower f ≡ true → Within (record { mark = 3; number = key f }) ≡ arg_field (arg_of f)
unfolding arg_of arg_field arg_within term_value keyed
variable_read f e = rw e

-- what the field says by its numeral
abbrev pub numbered : Numeral → Field
numbered Malformed = MalformedField
numbered Large = Outside
numbered (Value n) = Within (record { mark = 1; number = n })

number_read : (o : Option ℕ) → numbered (limited o) ≡ arg_field (mapped number o)
unfolding limited mapped arg_field arg_within term_value keyed
number_read none = refl
number_read (some n) = go (leb n constant_limit)
  where
    go : (t : Bool) → numbered (cond t (Value n) Large) ≡ cond t (Within (term_value (keyed (number n)))) Outside
    go true = refl
    go false = refl

pub numeral_read : (f : List ℕ) → is_name lower f ≡ false → numbered (numeral_value f) ≡ arg_field (arg_of f)
unfolding numeral_value arg_of
numeral_read f e = rw e (number_read (numeral f))

-- ---- what the value of a field says of the term

abbrev pub Says : Field → Option Arg → Type 0
Says MalformedField o = o ≡ none
Says Outside o = (u : Arg) × (o ≡ some u) × (arg_within u ≡ false)
Says (Within t) o = (u : Arg) × (o ≡ some u) × (arg_within u ≡ true) × (t ≡ term_value (keyed u))

says : (o : Option Arg) → Says (arg_field o) o
unfolding arg_field
says none = refl
says (some u) = go (arg_within u) refl
  where
    go : (t : Bool) → arg_within u ≡ t → Says (cond t (Within (term_value (keyed u))) Outside) (some u)
    go true e = (u, refl, e, refl)
    go false e = (u, refl, e)

pub field_says : {f : Field} (o : Option Arg) → f ≡ arg_field o → Says f o
field_says o e = subst⁻¹ (λ (f : Field). Says f o) e (says o)
