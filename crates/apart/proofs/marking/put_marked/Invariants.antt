-- `put_marked`: the marked rows of the views of the table that are no longer in `left` stand behind the rows, and there is room for those
-- of the views that are.
use mathlib.Core.Path.{◌≡◌}
use lib.ListN.{length}
use Rattle.apart.proofs.MarkedViews.{RoomLeft}
use Rattle.apart.proofs.MarkedViews.{MarkedSoFar}
use Rattle.apart.proofs.marking.put_marked.Given as goal

abbrev pub invariant-loop-left : goal.invariant-loop-left
invariant-loop-left l =
    RoomLeft l.from l.left l.count × (length l.out ≡ length l.initial.out) × MarkedSoFar l.base l.ready l.i l.odd l.from l.initial.out l.left l.out l.count

abbrev pub decreases-loop-left : goal.decreases-loop-left
decreases-loop-left l = l.left
