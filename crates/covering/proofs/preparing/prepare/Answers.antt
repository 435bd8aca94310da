use native.Mathlib.Omega.{arith}
use Rattle.model.specs.Value.{pad}
use Rattle.covering.proofs.Prepared.{partly_none, partly_more, partly_all}
use Rattle.covering.proofs.preparing.prepare.Goals as goal

pub loop-k-init : goal.loop-k-init
unfolding pad
loop-k-init c = partly_none _

pub loop-k-preserved : goal.loop-k-preserved
loop-k-preserved c = partly_more _ c.loop-k.invariant (omega arith) c.enter_view.ensures

pub returns : goal.returns
returns c = partly_all _ c.loop-k.invariant (omega arith) _ c.low_bits.ensures c.enter_widths.ensures
