use native.Mathlib.Omega.{arith}
use Rattle.freezing.proofs.Taken.{takes_as, rows_more}
use Rattle.freezing.proofs.blocks.take_rows.Goals as goal

pub loop-k-preserved : goal.loop-k-preserved
loop-k-preserved c = rows_more c.loop-k.invariant c.take_row.ensures

pub returns : goal.returns
returns c = takes_as c.loop-k.invariant (λ i q h l. omega (arith, l, c.loop-k-test.false)) (omega arith)
