use native.Mathlib.Omega.{arith}
use Rattle.reduce.proofs.GoingAlone.{variables_none, variables_more, variables_all}
use Rattle.reduce.proofs.folding.variables.Goals as goal

pub loop-rest-init : goal.loop-rest-init
loop-rest-init c = variables_none

pub least-requires : goal.least-requires
least-requires c = omega arith

pub hidden_of-m-requires : goal.hidden_of-m-requires
hidden_of-m-requires c =
    let (long, lines) = c.requires in (long, lines _ (c.loop-rest.invariant.some _ c.least.ensures.set))

pub drop_least-rest-requires : goal.drop_least-rest-requires
drop_least-rest-requires c = omega arith

pub loop-rest-smaller : goal.loop-rest-smaller
loop-rest-smaller c = c.drop_least-rest.ensures.less

pub loop-rest-preserved : goal.loop-rest-preserved
loop-rest-preserved c =
    let word = c.hidden_of-m in
    variables_more word.result c.loop-rest.invariant c.least.ensures c.drop_least-rest.ensures word.ensures

pub returns : goal.returns
returns c = variables_all (rw c.loop-rest-test.false at c.loop-rest.invariant)
