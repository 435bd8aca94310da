-- Request 3, "Shape, limits … and table checks use 1, 7, 2, 4 and 5 at line 1, each over the whole rule in that order", then 11 and 12:
-- what turns a rule back that is well formed.
use Rattle.std.specs.Prelude.{Bool, true, false, not, ◌&&◌, ◌||◌, List, [], ◌∷◌, ◌++◌, ℕ, leb, ltb, length}
use Rattle.theory.specs.Query.{Query}
use Rattle.theory.specs.Executable.Test.{all}
use Rattle.text.specs.Numeral.{constant_limit}
use Rattle.model.specs.Limits.{most_lines, most_tables, up_to}
use Rattle.model.specs.Checks.{known, wide, Check, first_fault}
use Rattle.rules.specs.Rule.{Name, Arg, variable, number, Atom, Rule}
use Rattle.rules.specs.Numbering.{stands, names, query_of}

-- "2 looks at table numbers and constants alone"
unfoldable pub arg_within : Arg → Bool
unfolding constant_limit
arg_within (variable x) = true
arg_within (number c) = leb c constant_limit

-- the numbers of an atom are within their limits (2)
unfoldable pub atom_within : Atom → Bool
unfolding up_to all arg_within
atom_within a = up_to most_tables a.table && all arg_within a.args

-- 2; then document 01's 4 and 5, of the lines that the atoms become
abbrev pub atom_checks : List ℕ → List Atom → Query → List Check
atom_checks widths atoms lines =
    record { broken = not (all atom_within atoms); number = 2 }
    ∷ record { broken = not (all (known widths) lines); number = 4 }
    ∷ record { broken = not (all (wide widths) lines); number = 5 }
    ∷ []

-- "a ninth body atom is 7", before these
abbrev pub body_checks : List ℕ → List Atom → Query → List Check
body_checks widths atoms lines = record { broken = ltb most_lines (length atoms); number = 7 } ∷ atom_checks widths atoms lines

-- a name stands twice
unfoldable pub repeats : List Name → Bool
unfolding stands
repeats [] = false
repeats (x ∷ l) = stands x l || repeats l

-- "11 where the head names a variable that the body lacks, and 12 where it names one twice"
abbrev pub head_checks : Rule → List Check
head_checks r =
    record { broken = not (all (λ x. stands x (names r)) r.head); number = 11 }
    ∷ record { broken = repeats r.head; number = 12 }
    ∷ []

-- the number of the first that turns the rule back, 0 where none does
unfoldable pub rule_fault : List ℕ → Rule → ℕ
unfolding first_fault known wide atom_within all repeats query_of
rule_fault widths r = first_fault (body_checks widths r.body (query_of r) ++ head_checks r)
