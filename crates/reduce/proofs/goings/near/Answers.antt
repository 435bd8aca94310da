use native.Mathlib.Omega.{arith}
use Rattle.reduce.proofs.KeptColumns.{near_more}
use Rattle.reduce.proofs.goings.near.Goals as goal

pub loop-s-preserved : goal.loop-s-preserved
loop-s-preserved c =
    near_more c.args.lines.now c.args.words.now c.args.a c.args.kept c.loop-s.s c.set_bit_if-m.result (omega (arith, c.ranges.kept))
    c.table_at-table.ensures c.table_at.ensures c.columns_of.ensures c.set_bit_if-m.ensures c.loop-s.invariant
