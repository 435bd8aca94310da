-- `with_mark`: the bit is set where the marks are the same.
use mathlib.Core.Path.{◌∙◌}
use native.Mathlib.Omega.{arith}
use borrow.Author.Tests.{eq-eqb, ne_eqb}
use Rattle.model.specs.Marks.{with_mark}
use Rattle.model.proofs.read.with_mark.Goals as goal

pub set_bit-requires : goal.set_bit-requires
set_bit-requires c = omega (arith, c.requires c.if-t-mark.true)

pub returns-then-t-mark : goal.returns-then-t-mark
unfolding with_mark
returns-then-t-mark c = c.set_bit.ensures ∙ simp (eq-eqb _ _ c.if-t-mark.true)

pub returns : goal.returns
unfolding with_mark
returns c = simp (ne_eqb _ _ c.if-t-mark.false)
