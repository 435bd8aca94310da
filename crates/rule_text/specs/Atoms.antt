-- What the steps of reading an atom give, as the code's values.
use Rattle.std.specs.Prelude.{◌≡◌, cond, Result, Ok, Err, List, [], ◌∷◌, ◌++◌, map, ℕ, ◌+◌, length}
use Rattle.std.proofs.Math.Option.{Option, none, some}
use Rattle.theory.specs.Executable.Test.{all}
use Rattle.text.specs.Names.{bytes}
use Rattle.text.specs.Numeral.{numeral}
use Rattle.text.specs.Value.{limited}
use Rattle.text.specs.declared.Numeral.{Numeral}
use Rattle.model.specs.Value.{term_value, terms_value}
use Rattle.model.specs.declared.Term.{Term}
use Rattle.model.specs.declared.Field.{Field}
use Rattle.model.specs.declared.Field.TheVariants.{Malformed as MalformedField, Outside as OutsideField, Within}
use Rattle.rules.specs.Rule.{Arg}
use Rattle.rules.specs.Rule.{Atom as TheAtom}
use Rattle.rules.specs.Text.{onto, behind}
use Rattle.rules.specs.Checks.{arg_within, atom_within}
use Rattle.rule_text.specs.Keys.{keyed}
use Rattle.rule_text.specs.declared.args.Atom.{Atom}
use Rattle.rule_text.specs.declared.args.Unreadable.{Unreadable}
use Rattle.rule_text.specs.declared.args.Unreadable.TheVariants.{Malformed, Outside}

unfoldable pub arg_field : Option Arg → Field
unfolding arg_within term_value keyed
arg_field none = MalformedField
arg_field (some t) = cond (arg_within t) (Within (term_value (keyed t))) OutsideField

-- an atom within the limits: its table and its terms (the first are kept, as many as a table may have columns)
unfoldable pub good_atom : ℕ → List Arg → Atom
unfolding terms_value keyed
good_atom table ts = record { table = table; count = length ts; terms = terms_value (map keyed ts) }

-- r holds the terms of a and t behind them
pub record BehindArgs (a : Atom) (t : Term) (r : Atom) : Type 0 where
  pub count : r.count ≡ a.count + 1
  pub terms : (ts : List Arg) (u : Arg) → a ≡ good_atom 0 ts → t ≡ term_value (keyed u) → r ≡ good_atom 0 (ts ++ u ∷ [])

unfoldable pub args_value : Option (List Arg) → Result Atom Unreadable
unfolding good_atom arg_within all
args_value none = Err Malformed
args_value (some ts) = cond (all arg_within ts) (Ok (good_atom 0 ts)) (Err Outside)

-- "Tables are `T` and a numeral"
unfoldable pub table_numeral : List ℕ → Numeral
unfolding limited onto numeral behind bytes
table_numeral f = limited (onto numeral (behind (bytes "T") f))

unfoldable pub atom_value : Option TheAtom → Result Atom Unreadable
unfolding good_atom atom_within
atom_value none = Err Malformed
atom_value (some a) = cond (atom_within a) (Ok (good_atom a.table a.args)) (Err Outside)
