-- Reducing, computed. A map that sends lines to lines is a choice of a target for each line such that the terms that then
-- stand over one another belong to one map.
use Rattle.std.specs.Prelude.{Bool, true, cond, not, ◌&&◌, ◌||◌, ℕ, zero, suc, eqb, length}
use mathlib.Core.List.{List, [], ◌∷◌, ◌++◌, zip}
use Rattle.theory.specs.Query.{Term, constant, shown, hidden, Query}
use Rattle.theory.specs.Reduce.{without}
use Rattle.theory.specs.Executable.Test.{all, any, same}

-- constants and shown variables stand over themselves
unfoldable pub keeps : Term × Term → Bool
unfolding same
keeps z = elim z.0 [ constant c ↦ same (constant c) z.1 | shown n ↦ same (shown n) z.1 | hidden n ↦ true ]

-- equal terms stand over equal terms
unfoldable pub agrees : Term × Term → Term × Term → Bool
unfolding same
agrees y z = not (same y.0 z.0) || same y.1 z.1

-- some map sends the first term of each pair to the second
unfoldable pub mappable : List (Term × Term) → Bool
unfolding all keeps agrees
mappable zs = all (λ y. keeps y && all (agrees y) zs) zs

-- some map sends the lines of Q to lines of R, and the first term of each pair to the second
unfoldable pub sendable : List (Term × Term) → Query → Query → Bool
unfolding any mappable zip
sendable zs [] R = mappable zs
sendable zs (A ∷ Q) R =
    any
    (λ B. eqb A.table B.table && eqb (length A.columns) (length B.columns)
    && sendable (zip A.columns B.columns ++ zs) Q R)
    R

-- the line at place i may go
unfoldable pub may_go : Query → ℕ → Bool
unfolding sendable
may_go Q i = sendable [] Q (without i Q)

-- Each of the first n lines in turn, the last first, is taken out if it may go.
unfoldable pub reduce_below : ℕ → Query → Query
unfolding may_go
reduce_below zero Q = Q
reduce_below (suc i) Q = reduce_below i (cond (may_go Q i) (without i Q) Q)

-- the reduced query
unfoldable pub reduce : Query → Query
unfolding reduce_below
reduce Q = reduce_below (length Q) Q
