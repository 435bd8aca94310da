-- "The terms of a view are kept as rows of eight terms, unused ones marked": the theory's term, line and query that a value
-- stands for. An unused term has mark 0 and ends its line; a query's lines are those before its count.
use Rattle.std.specs.Prelude.{List, [], ◌∷◌, map, ℕ, zero, suc, take}
use Rattle.theory.specs.Query.{constant, shown, hidden, Query}
use Rattle.theory.specs.Query.{Term as TheTerm, Line as TheLine}
use Rattle.model.specs.declared.Term.{Term}
use Rattle.model.specs.declared.Line.{Line}
use Rattle.model.specs.declared.Query.{Query as QueryValue}

-- the term of a mark and a number
unfoldable pub marked : ℕ → ℕ → TheTerm
marked zero n = hidden n
marked (suc zero) n = constant n
marked (suc (suc zero)) n = shown n
marked (suc (suc (suc m))) n = hidden n

unfoldable pub as_term : Term → TheTerm
unfolding marked
as_term t = marked t.mark t.number

-- a term in front of others, unless it is unused, which ends them
unfoldable pub used : ℕ → TheTerm → List TheTerm → List TheTerm
used zero t ts = []
used (suc m) t ts = t ∷ ts

-- the terms before the first unused one
unfoldable pub as_terms : List Term → List TheTerm
unfolding used as_term
as_terms [] = []
as_terms (t ∷ ts) = used t.mark (as_term t) (as_terms ts)

unfoldable pub as_line : Line → TheLine
unfolding as_terms
as_line A = record { table = A.table; columns = as_terms A.terms }

-- the lines before the count
unfoldable pub as_query : QueryValue → Query
unfolding as_line
as_query Q = map as_line (take Q.count Q.lines)
