use native.Mathlib.Omega.{arith}
use Rattle.numbering.proofs.Named.{gathered_none, gathered_more, gathered_all}
use Rattle.numbering.proofs.names.names_of.Goals as goal

pub loop-line-init : goal.loop-line-init
loop-line-init c = gathered_none _ _ c.none-names.ensures

pub loop-line-preserved : goal.loop-line-preserved
loop-line-preserved c = gathered_more _ c.loop-line.invariant c.loop-line-test.true c.enter_line.ensures

pub returns : goal.returns
returns c = gathered_all c.loop-line.invariant c.loop-line-test.false (omega (arith, c.requires))
