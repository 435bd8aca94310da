-- `search`: the targets of the first line that were tried lead to nothing, and the lines behind it are searched with the candidates that
-- are compatible.
use Rattle.words.specs.Sets.{Least, LeastDropped}
use Rattle.reduce.proofs.Rows.{Tried}
use Rattle.reduce.proofs.assignment.+search.Given as goal

abbrev pub decreases-search : goal.decreases-search
decreases-search l = l.rows

abbrev pub invariant-loop-row : goal.invariant-loop-row
invariant-loop-row l =
    (first : Least 64 l.rows l.k) × (others : LeastDropped 64 l.rows l.rest)
    × Tried l.rows l.targets l.candidates l.k l.rest l.table first others l.row

abbrev pub decreases-loop-row : goal.decreases-loop-row
decreases-loop-row l = l.row
