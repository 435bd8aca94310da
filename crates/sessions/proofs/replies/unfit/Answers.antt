-- `unfit`: the two tests of 9.
use borrow.Author.Tests.{eq-eqb, ne_eqb}
use Rattle.sessions.proofs.replies.unfit.Goals as goal

pub returns-then-mask-eq0 : goal.returns-then-mask-eq0
returns-then-mask-eq0 c = rw (eq-eqb _ 0 c.if-mask-eq0.true)

pub returns : goal.returns
returns c = rw (ne_eqb _ 0 c.if-mask-eq0.false)
