use mathlib.Core.Bool.{false≢true}
use native.Mathlib.Omega.{arith}
use Rattle.words.proofs.Marks.{left_before}
use Rattle.reduce.proofs.folding.goes_alone.Goals as goal

pub loop-rest-init : goal.loop-rest-init
loop-rest-init c = λ b e. e

pub least-requires : goal.least-requires
least-requires c = omega arith

pub stays-requires : goal.stays-requires
stays-requires c =
    let (long, line, targets) = c.requires in (long, line, targets _ (c.loop-rest.invariant _ c.least.ensures.set))

pub returns-then-stays : goal.returns-then-stays
returns-then-stays c =
    λ _. record {
      target = c.least.result;
      among = c.loop-rest.invariant _ c.least.ensures.set;
      keeps = c.stays.ensures c.if-stays.true;
    }

pub drop_least-rest-requires : goal.drop_least-rest-requires
drop_least-rest-requires c = omega arith

pub loop-rest-smaller : goal.loop-rest-smaller
loop-rest-smaller c = c.drop_least-rest.ensures.less

pub loop-rest-preserved : goal.loop-rest-preserved
loop-rest-preserved c =
    λ b e. c.loop-rest.invariant b (left_before b c.least.ensures c.drop_least-rest.ensures e)

pub returns : goal.returns
returns c = λ e. absurd (false≢true e)
