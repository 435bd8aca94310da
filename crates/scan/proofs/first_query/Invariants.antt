-- The loop's invariant: the text before the place is that of the lines so far, which `q` and the rows hold.
use mathlib.Core.Path.{◌≡◌}
use Prim.Native.Nat.{◌-◌}
use lib.ListN.{length}
use Rattle.model.specs.Rows.{query_rows_long}
use Rattle.scan.proofs.LinesTo.{LinesTo}
use Rattle.scan.proofs.first_query.Given as goal

abbrev pub invariant-loop-at : goal.invariant-loop-at
invariant-loop-at l =
    LinesTo l.widths l.input l.rows l.q l.shown l.hidden l.at × (length l.rows ≡ query_rows_long)

abbrev pub decreases-loop-at : goal.decreases-loop-at
decreases-loop-at l = length l.input - l.at
