-- Names as numbers: how the code holds a name, which has at most four bytes.
use Rattle.std.specs.Prelude.{cond, List, ℕ, Option, Some, None}
use Rattle.theory.specs.Query.{Term, constant, hidden}
use Rattle.little_endian.specs.LittleEndian.{little_endian}
use Rattle.rules.specs.Rule.{Name, Arg, variable, number}
use Rattle.rules.specs.Text.{is_name}

-- a name as one number
abbrev pub key : Name → ℕ
key = little_endian

-- the key of a name, where the field is one
unfoldable pub name_value : ℕ → List ℕ → Option ℕ
unfolding is_name
name_value letters f = cond (is_name letters f) (Some (key f)) None

-- a term of an atom: until the names have numbers, a variable is a hidden one with the key of its name
unfoldable pub keyed : Arg → Term
keyed (variable x) = hidden (key x)
keyed (number c) = constant c
