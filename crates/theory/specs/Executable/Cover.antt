-- Covering, computed.
use Rattle.std.specs.Prelude.{Bool, true, false, not, ◌&&◌, ◌||◌, eqb, length}
use Rattle.theory.specs.Query.{Term, constant, shown, hidden, Line}
use Rattle.theory.specs.Cover.{at}
use Rattle.theory.specs.Executable.Test.{all_below, same}

unfoldable pub is_hidden : Term → Bool
is_hidden (constant c) = false
is_hidden (shown n) = false
is_hidden (hidden n) = true

-- the three rules at columns p and q, where the view has v and v' and the line a and a'
unfoldable pub obeys : (v v' a a' : Term) → Bool
unfolding same is_hidden
obeys (constant c) v' a a' = same a (constant c)
obeys (shown n) v' a a' = not (same (shown n) v') || same a a'
obeys (hidden n) v' a a' =
    (not (same (hidden n) v') || same a a') && (is_hidden a && (not (same a a') || same (hidden n) v'))

unfoldable pub covers : (v A : Line) → Bool
unfolding all_below obeys
covers v A =
    eqb v.table A.table && (eqb (length v.columns) (length A.columns)
    && all_below (length v.columns)
    (λ p. all_below (length v.columns) (λ q. obeys (at v p) (at v q) (at A p) (at A q))))
