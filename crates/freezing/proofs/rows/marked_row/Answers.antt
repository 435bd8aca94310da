use native.Mathlib.Omega.{arith}
use borrow.Author.Rules.{rules}
use Rattle.freezing.proofs.MarkedCells.{marked_more, marked_all}
use Rattle.freezing.proofs.rows.marked_row.Goals as goal

pub loop-p-preserved : goal.loop-p-preserved
loop-p-preserved c =
    marked_more c.loop-p.invariant (search rules) c.term_at-t.ensures c.first_column-q.ensures
    c.marked_cell.ensures

pub returns : goal.returns
returns c = marked_all c.loop-p.invariant (omega arith)
