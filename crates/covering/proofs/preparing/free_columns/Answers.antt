use Rattle.covering.proofs.Columns.{free_more}
use Rattle.covering.proofs.preparing.free_columns.Goals as goal

pub loop-p-preserved : goal.loop-p-preserved
loop-p-preserved c =
    let free = c.is_free in rw c.set_bit_if-m.ensures (free_more _ _ free.result c.loop-p.invariant free.ensures)
