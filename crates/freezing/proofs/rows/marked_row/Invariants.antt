-- `marked_row`: the cells before that of column `p` are marked.
use Rattle.freezing.proofs.MarkedCells.{MarkedTo}
use Rattle.freezing.proofs.rows.marked_row.Given as goal

abbrev pub invariant-loop-p : goal.invariant-loop-p
invariant-loop-p l = MarkedTo l.base l.views l.k l.cells l.p l.marked
