use mathlib.Core.Path.{◌≡◌, subst, sym}
use mathlib.Core.Bool.{false≢true}
use native.Mathlib.Omega.{arith}
use Rattle.words.specs.Bits.{bit}
use Rattle.words.proofs.Bits.{bit_within}
use Rattle.words.proofs.Marks.{left_before}
use Rattle.model.specs.Limits.{most_lines}
use Rattle.reduce.specs.Extends.{TargetsOf}
use Rattle.reduce.proofs.Rows.{row_empty}
use Rattle.reduce.proofs.assignment.rows_left.Goals as goal
use Rattle.reduce.proofs.assignment.rows_left.Goals.{After-least-k}

pub loop-rest-init : goal.loop-rest-init
loop-rest-init c = (omega arith, λ i h. h)

pub least-k-requires : goal.least-k-requires
least-k-requires c = omega arith

-- the line is one of the rows
row : (c : After-least-k) → bit c.args.rows c.least-k.result ≡ 1
row c = c.loop-rest.invariant.1 c.least-k.result c.least-k.ensures.set

pub row_of-requires : goal.row_of-requires
row_of-requires c = let pre = c.requires in (bit_within most_lines _ pre.0 (row c), pre.1)

pub returns-then-row_of-eq0 : goal.returns-then-row_of-eq0
returns-then-row_of-eq0 c e = row_empty (row (goal.at.returns-then-row_of-eq0 c).After-least-k) (subst (TargetsOf _ _ _) c.if-row_of-eq0.true c.row_of.ensures)

pub drop_least-rest-requires : goal.drop_least-rest-requires
drop_least-rest-requires c = omega arith

pub loop-rest-smaller : goal.loop-rest-smaller
loop-rest-smaller c = c.drop_least-rest.ensures.less

pub loop-rest-preserved : goal.loop-rest-preserved
loop-rest-preserved c =
    let inv = c.loop-rest.invariant in
    let first = c.least-k.ensures in
    let others = c.drop_least-rest.ensures in
    (omega (arith, others.less, inv.0), λ i h. inv.1 i (left_before i first others h))

pub returns : goal.returns
returns c e = absurd (false≢true (sym e))
