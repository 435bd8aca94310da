use lib.Dec.{ltb}
use Rattle.model.specs.Value.{unused_term}
use Rattle.words.proofs.Answers.{no_iff, passes, fails}
use Rattle.validity.proofs.Columns.{looked_more, looked_marked, looked_done, right_within}
use mathlib.Core.Path.{ap}
use mathlib.Core.Bool.{not}
use Rattle.validity.proofs.valid_terms.Goals as goal

pub returns-then-not-enter_term : goal.returns-then-not-enter_term
unfolding unused_term
returns-then-not-enter_term c =
    no_iff (λ d.
    fails c.enter_term.ensures.right (ap not c.if-not-enter_term.true)
    (right_within (ltb c.loop-i.i c.args.w) _ (d.places _ c.loop-i-test.true)))

pub loop-i-preserved : goal.loop-i-preserved
unfolding unused_term
loop-i-preserved c =
    let entering = c.enter_term.ensures in
    looked_more _ _ c.loop-i.invariant c.loop-i-test.true (passes entering.right (ap not c.if-not-enter_term.false))
    (entering.done c.if-not-enter_term.false)

pub returns-then-by-ne0 : goal.returns-then-by-ne0
returns-then-by-ne0 c = no_iff (λ d. c.if-by-ne0.true (looked_marked c.loop-i.invariant c.loop-i-test.false d))

pub returns : goal.returns
returns c =
    rw c.meets.ensures (looked_done c.loop-i.invariant c.loop-i-test.false c.if-by-ne0.false)
