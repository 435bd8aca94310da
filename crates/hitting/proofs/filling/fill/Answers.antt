use mathlib.Core.Path.{◌≡◌, subst}
use Prim.Native.Nat.{◌+◌, ◌<◌}
use native.Mathlib.Omega.{arith}
use Rattle.hitting.specs.Table.{sets, Filled}
use Rattle.hitting.proofs.LeastWeight.{filled_more}
use Rattle.hitting.proofs.Lightest.{few_sets}
use Rattle.hitting.proofs.filling.fill.Goals as goal
use Rattle.hitting.proofs.filling.fill.Goals.{After-least_weight}

-- a set of at most eight labels
few : (c : After-least_weight) → c.loop-m.m < sets
few c =
    let (k, searched, below) = c.requires.0 in
    few_sets _ _ _ searched (omega (arith, below, c.loop-m-test.true))

pub loop-m-preserved : goal.loop-m-preserved
loop-m-preserved c =
    let (light, bound) = c.least_weight.ensures in
    (omega (arith, c.loop-m-test.true), filled_more _ _ _ (few (goal.at.loop-m-preserved c).After-least_weight) c.loop-m.invariant.1 light bound)

pub returns : goal.returns
returns c =
    let at = c.loop-m in
    let a = c.args in
    let all : at.m ≡ a.full + 1 = omega (arith, at.invariant.0, c.loop-m-test.false) in
    subst (Filled a.hits.now a.costs.now at.table) all at.invariant.1
