use mathlib.Core.Path.{◌≡◌, sym, ap, subst, ◌∙◌}
use Prim.Native.Nat.{ℕ, ◌+◌, min}
use native.Mathlib.Omega.{arith}
use Rattle.model.specs.Limits.{most_views}
use Rattle.hitting.proofs.LeastWeight.{weighed, LeastTo, least_more, least_all}
use Rattle.hitting.proofs.filling.least_weight.Goals as goal

pub weight_with-requires : goal.weight_with-requires
weight_with-requires c =
    let (set, filled, some) = c.requires in weighed _ _ _ set filled c.loop-v-test.true

pub loop-v-preserved : goal.loop-v-preserved
loop-v-preserved c =
    let (set, filled, some) = c.requires in
    subst (LeastTo _ _ _ _ (c.loop-v.v + 1)) (sym (c.min-least.ensures ∙ ap (min c.loop-v.least) c.weight_with.ensures))
    (least_more _ _ _ _ set filled c.loop-v-test.true c.loop-v.invariant)

pub returns : goal.returns
returns c =
    let at = c.loop-v in
    let (set, filled, some) = c.requires in
    let a = c.args in
    let all : at.v ≡ most_views = omega arith in
    least_all _ _ _ _ set filled some
    (subst (λ (v : ℕ). LeastTo a.hits.now a.costs.now a.table.now a.m v at.least) all at.invariant)
