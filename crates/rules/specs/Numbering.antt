-- Request 3, "variables numbered from 0 by first place in the body, head variables shown": the query that a rule becomes.
use Rattle.std.specs.Prelude.{Bool, cond, List, [], ◌∷◌, ◌++◌, map, ℕ, suc}
use Rattle.theory.specs.Query.{Term, constant, shown, hidden, Line, Query}
use Rattle.theory.specs.Executable.Test.{any}
use Rattle.text.specs.Lines.{same_bytes}
use Rattle.rules.specs.Rule.{Name, Arg, variable, number, Atom, Rule}

-- what stands in the atoms, in order
unfoldable pub body_args : List Atom → List Arg
body_args [] = []
body_args (a ∷ l) = a.args ++ body_args l

-- "Names are the same when their bytes are"
unfoldable pub stands : Name → List Name → Bool
unfolding any same_bytes
stands x l = any (same_bytes x) l

-- the names seen, and those of the terms that are new, each at its first place
unfoldable pub firsts : List Name → List Arg → List Name
unfolding stands
firsts seen [] = seen
firsts seen (number c ∷ l) = firsts seen l
firsts seen (variable x ∷ l) = firsts (cond (stands x seen) seen (seen ++ x ∷ [])) l

-- the variables of the body, by first place
unfoldable pub names : Rule → List Name
unfolding firsts body_args
names r = firsts [] (body_args r.body)

-- how many names stand before this one
unfoldable pub place_of : Name → List Name → ℕ
unfolding same_bytes
place_of x [] = 0
place_of x (y ∷ l) = cond (same_bytes x y) 0 (suc (place_of x l))

-- "numbered from 0 by first place in the body"
unfoldable pub number_of : Rule → Name → ℕ
unfolding place_of names
number_of r x = place_of x (names r)

-- "head variables shown"
unfoldable pub term_of : Rule → Arg → Term
unfolding stands number_of
term_of r (number c) = constant c
term_of r (variable x) = cond (stands x r.head) (shown (number_of r x)) (hidden (number_of r x))

-- an atom as a line, whatever its terms become
unfoldable pub line_of : (Arg → Term) → Atom → Line
line_of f a = record { table = a.table; columns = map f a.args }

-- a line for each atom, in order
unfoldable pub query_of : Rule → Query
unfolding line_of term_of
query_of r = map (line_of (term_of r)) r.body
