-- `is_hidden`: the mark and the limit are what the definition tests.
use borrow.Author.Tests.{eq-eqb, ne_eqb}
use Rattle.entering.specs.Showing.{hidden_term}
use Rattle.entering.proofs.showing.is_hidden.Goals as goal

pub returns-then-t-ne-HIDDEN : goal.returns-then-t-ne-HIDDEN
unfolding hidden_term
returns-then-t-ne-HIDDEN c = simp (ne_eqb _ _ c.if-t-ne-HIDDEN.true)

pub returns : goal.returns
unfolding hidden_term
returns c = simp (eq-eqb _ _ c.if-t-ne-HIDDEN.false)
