use Prim.Native.Nat.{◌<◌}
use native.Mathlib.Omega.{arith}
use Rattle.model.specs.Limits.{most_lines}
use Rattle.reduce.proofs.Links.{links_none, links_more, links_all}
use Rattle.reduce.proofs.pairs.put_links.Goals as goal
use Rattle.reduce.proofs.pairs.put_links.Goals.{After-least-t}

pub loop-rest-init : goal.loop-rest-init
loop-rest-init c = links_none

pub least-t-requires : goal.least-t-requires
least-t-requires c = omega arith

-- a bit of the row is a target
small : (c : After-least-t) → c.least-t.result < most_lines
small c = c.requires.3 _ (c.loop-rest.invariant.some _ c.least-t.ensures.set)

pub overflow_mul-at : goal.overflow_mul-at
overflow_mul-at c = omega (arith, small c)

pub overflow_add-at : goal.overflow_add-at
overflow_add-at c = omega (arith, small c)

pub overflow_mul-links : goal.overflow_mul-links
overflow_mul-links c = omega (arith, small c)

pub overflow_shr-links : goal.overflow_shr-links
overflow_shr-links c = omega (arith, small c)

pub offset_bounds-table-at : goal.offset_bounds-table-at
offset_bounds-table-at c = omega (arith, small c)

pub bounds-table-at : goal.bounds-table-at
bounds-table-at c = omega (arith, small (goal.at.bounds-table-at c).After-least-t, c.loop-rest.invariant.long)

pub overflow_mul-table : goal.overflow_mul-table
overflow_mul-table c = omega arith

pub overflow_shl-table : goal.overflow_shl-table
overflow_shl-table c = omega arith

pub offset_bounds-table-at-in-loop-rest : goal.offset_bounds-table-at-in-loop-rest
offset_bounds-table-at-in-loop-rest c = omega (arith, small (goal.at.offset_bounds-table-at-in-loop-rest c).After-least-t)

pub bounds-table-at-in-loop-rest : goal.bounds-table-at-in-loop-rest
bounds-table-at-in-loop-rest c = omega (arith, small (goal.at.bounds-table-at-in-loop-rest c).After-least-t, c.loop-rest.invariant.long)

pub drop_least-rest-requires : goal.drop_least-rest-requires
drop_least-rest-requires c = omega arith

pub loop-rest-smaller : goal.loop-rest-smaller
loop-rest-smaller c = c.drop_least-rest.ensures.less

pub loop-rest-preserved : goal.loop-rest-preserved
loop-rest-preserved c =
    let (size, a, b, lines) = c.requires in
    links_more c.loop-rest.invariant c.least-t.ensures c.drop_least-rest.ensures lines size a b

pub shape_of-table : goal.shape_of-table
shape_of-table c = c.loop-rest.invariant.long

pub returns : goal.returns
returns c = links_all (rw c.loop-rest-test.false at c.loop-rest.invariant)
