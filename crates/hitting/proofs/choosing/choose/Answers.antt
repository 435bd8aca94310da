use mathlib.Core.Path.{◌≡◌, subst}
use Prim.Native.Nat.{◌<◌}
use native.Mathlib.Omega.{arith}
use Rattle.hitting.proofs.Leading.{ChosenTo, chosen_none, filled_part, room_left, chosen_more, chosen_all}
use Rattle.hitting.proofs.choosing.choose.Goals as goal
use Rattle.hitting.proofs.choosing.choose.Goals.{After-without-left}

pub loop-left-init : goal.loop-left-init
loop-left-init c = let a = c.args in chosen_none a.hits.now a.costs.now a.table.now c.no_words-r.ensures

pub first_view-v-requires : goal.first_view-v-requires
first_view-v-requires c =
    (filled_part _ _ _ c.requires c.loop-left.invariant.within, omega (arith, c.loop-left-test.true))

pub overflow_add-v : goal.overflow_add-v
overflow_add-v c = omega (arith, c.first_view-v.ensures.numbered.1)

pub push-r-requires : goal.push-r-requires
push-r-requires c =
    room_left _ _ _ c.requires c.loop-left.invariant (omega (arith, c.loop-left-test.true))

pub offset_bounds-hits-v : goal.offset_bounds-hits-v
offset_bounds-hits-v c = omega (arith, c.first_view-v.ensures.numbered.1)

pub bounds-hits-v : goal.bounds-hits-v
bounds-hits-v c = omega (arith, c.first_view-v.ensures.numbered.1)

-- one view more, and fewer labels left
next : (c : After-without-left) →
    let a = c.args in
    ChosenTo a.hits.now a.costs.now a.m c.push-r.result c.without-left.result
    × (c.without-left.result < c.loop-left.left)
next c =
    chosen_more _ _ _ _ _ c.requires c.loop-left.invariant c.first_view-v.ensures c.without-left.ensures c.push-r.ensures.by_index

pub loop-left-smaller : goal.loop-left-smaller
loop-left-smaller c = (next c).1

pub loop-left-preserved : goal.loop-left-preserved
loop-left-preserved c = (next c).0

pub returns : goal.returns
returns c =
    let none : c.loop-left.left ≡ 0 = omega (arith, c.loop-left-test.false) in
    chosen_all _ _ _ c.requires
    (subst (ChosenTo c.args.hits.now c.args.costs.now c.args.m c.loop-left.r) none c.loop-left.invariant)
