-- Showing, computed.
use Rattle.std.specs.Prelude.{Bool, false, cond, ◌&&◌, ◌||◌, [], ◌∷◌, map, ℕ}
use Rattle.theory.specs.Query.{Term, constant, shown, hidden, over, Line, Query}
use Rattle.theory.specs.Executable.Test.{any, same}

-- the hidden variable stands in the line
unfoldable pub stands_in : ℕ → Line → Bool
unfolding any same
stands_in n A = any (same (hidden n)) A.columns

-- some line and a later one have it
unfoldable pub shared : Query → ℕ → Bool
unfolding stands_in any
shared [] n = false
shared (A ∷ R) n = (stands_in n A && any (stands_in n) R) || shared R n

unfoldable pub show_term : Query → Term → Term
unfolding shared
show_term R (constant c) = constant c
show_term R (shown n) = shown n
show_term R (hidden n) = cond (shared R n) (shown n) (hidden n)

-- the query with its shared variables shown
unfoldable pub show : Query → Query
unfolding show_term
show R = map (over (show_term R)) R
