use Prim.Native.Nat.{◌<◌}
use native.Mathlib.Omega.{arith}
use Rattle.model.specs.Limits.{most_lines}
use Rattle.reduce.proofs.Links.{rows_none, rows_more, rows_all, upto_below, agreeing}
use Rattle.reduce.proofs.pairs.agree_word.Goals as goal
use Rattle.reduce.proofs.pairs.agree_word.Goals.{After-least-t}

pub loop-rest-init : goal.loop-rest-init
loop-rest-init c = rows_none

pub least-t-requires : goal.least-t-requires
least-t-requires c = omega arith

-- a bit of the row is a target
small : (c : After-least-t) → c.least-t.result < most_lines
small c = c.requires.3 _ (c.loop-rest.invariant.some _ c.least-t.ensures.set)

pub term_at-requires : goal.term_at-requires
term_at-requires c = (omega (arith, small c), omega arith)

pub agree_row-agreeing-requires : goal.agree_row-agreeing-requires
agree_row-agreeing-requires c = (omega arith, omega arith)

pub overflow_mul-m : goal.overflow_mul-m
overflow_mul-m c = omega (arith, small (goal.at.overflow_mul-m c).After-least-t)

pub overflow_shl-m : goal.overflow_shl-m
overflow_shl-m c = omega (arith, small (goal.at.overflow_shl-m c).After-least-t)

pub drop_least-rest-requires : goal.drop_least-rest-requires
drop_least-rest-requires c = omega arith

pub loop-rest-smaller : goal.loop-rest-smaller
loop-rest-smaller c = c.drop_least-rest.ensures.less

pub loop-rest-preserved : goal.loop-rest-preserved
loop-rest-preserved c =
    let row = c.agree_row-agreeing in
    let read = c.term_at in
    rows_more row.result c.loop-rest.invariant c.least-t.ensures c.drop_least-rest.ensures
    (upto_below row.ensures) (small (goal.at.loop-rest-preserved c).After-least-t) (agreeing _ c.least-t.result _ _ read.ensures row.ensures)

pub returns : goal.returns
returns c = rows_all (rw c.loop-rest-test.false at c.loop-rest.invariant)
