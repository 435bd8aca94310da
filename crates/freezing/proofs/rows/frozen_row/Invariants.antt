-- `frozen_row`: the cells before that of column `p` are those of the line's row.
use Rattle.freezing.proofs.FrozenCells.{FrozenTo}
use Rattle.freezing.proofs.rows.frozen_row.Given as goal

abbrev pub invariant-loop-p : goal.invariant-loop-p
invariant-loop-p l = FrozenTo l.base l.lines l.i l.p l.cells
