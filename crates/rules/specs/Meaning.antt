-- Document 01, "A valuation gives each variable a whole number so that each line becomes a row of its table", of a rule: its answers by its
-- names alone, before any of them has a number.
use Rattle.std.specs.Prelude.{◌≡◌, map, ℕ}
use Rattle.theory.specs.Query.{◌∈◌}
use Rattle.theory.specs.Archive.{Row, Archive}
use Rattle.rules.specs.Rule.{Name, Arg, variable, number, Atom, Rule}

-- a valuation of names gives a variable its number, and a constant is itself
unfoldable pub arg_value : (Name → ℕ) → Arg → ℕ
arg_value w (variable x) = w x
arg_value w (number c) = c

-- the row that an atom becomes
unfoldable pub atom_row : (Name → ℕ) → Atom → Row
unfolding arg_value
atom_row w a = record { table = a.table; columns = map (arg_value w) a.args }

-- u is an answer, "values matched by variable": a valuation gives the head's variables the values of u, and makes each atom a row
abbrev pub RuleAnswer : Rule → Archive → (Name → ℕ) → Type 0
RuleAnswer r D u = (w : Name → ℕ) × ((x : Name) → x ∈ r.head → w x ≡ u x) × ((a : Atom) → a ∈ r.body → atom_row w a ∈ D)
