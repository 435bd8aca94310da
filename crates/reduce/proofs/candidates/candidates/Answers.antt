use mathlib.Core.Bool.{not}
use mathlib.Core.Path.{ap}
use native.Mathlib.Omega.{arith}
use Rattle.words.proofs.Answers.{passes, fails}
use Rattle.reduce.proofs.Looked.{sieved_kept, sieved_out}
use Rattle.reduce.proofs.OwnTerms.{candidate_test, candidates_first, candidates_all}
use Rattle.reduce.proofs.candidates.candidates.Goals as goal
use Rattle.reduce.proofs.candidates.candidates.Goals.{else-not-goes_itself, then-not-goes_itself}

pub loop-rest-init : goal.loop-rest-init
loop-rest-init c = λ Q n g goings. candidates_first g _ goings

pub least-p-requires : goal.least-p-requires
least-p-requires c = omega arith

pub goes_itself-requires : goal.goes_itself-requires
goes_itself-requires c =
    let k = c.least-p.ensures.below in
    let (long, long') = c.requires in (long, long', omega (arith, k), omega (arith, k))

pub clear_bit-m-requires : goal.clear_bit-m-requires
clear_bit-m-requires c = c.least-p.ensures.below

pub drop_least-rest-requires : goal.drop_least-rest-requires
drop_least-rest-requires c = omega arith

pub loop-rest-smaller : goal.loop-rest-smaller
loop-rest-smaller c = c.drop_least-rest.ensures.less

pub loop-rest-preserved : goal.loop-rest-preserved
loop-rest-preserved c = λ Q n g goings.
    let k = c.loop-rest.invariant Q n g goings in
    let going = (goings c.least-p.result).0 (k.some _ c.least-p.ensures.set) in
    let answer = candidate_test g _ going c.goes_itself.ensures in
    elim c.if-not-goes_itself.branch [ then-not-goes_itself w ↦ rw (w.m-is, w.clear_bit-m.ensures) (sieved_out k c.least-p.ensures c.drop_least-rest.ensures (fails answer (ap not w.if-not-goes_itself.true))) | else-not-goes_itself w ↦ rw w.m-is (sieved_kept k c.least-p.ensures c.drop_least-rest.ensures (passes answer (ap not w.if-not-goes_itself.false))) ]

pub returns : goal.returns
returns c = λ Q n g goings. candidates_all goings (rw c.loop-rest-test.false at (c.loop-rest.invariant Q n g goings))
