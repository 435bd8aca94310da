use mathlib.Core.Path.{ap, ◌∙◌}
use Rattle.words.proofs.Marks.{upto_more, by_test}
use Rattle.model.specs.Value.{same_term}
use Rattle.model.proofs.Same.{same_term_iff}
use Rattle.reduce.proofs.pairs.agree_row.Goals as goal

pub loop-u-preserved : goal.loop-u-preserved
loop-u-preserved c =
    let on = c.same_term-same in
    let read = c.term_at in
    rw c.set_bit_if-m.ensures
    (upto_more on.result c.loop-u.invariant (by_test (on.ensures ∙ ap (same_term _) read.ensures) (same_term_iff _ _)))
