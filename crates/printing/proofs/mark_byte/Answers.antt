-- `mark_byte`: each mark has its own branch.
use borrow.Author.Tests.{eq-eqb, ne_eqb}
use Rattle.printing.specs.Printing.{mark_byte}
use Rattle.printing.proofs.mark_byte.Goals as goal

pub returns-then-mark-eq-CONSTANT : goal.returns-then-mark-eq-CONSTANT
unfolding mark_byte
returns-then-mark-eq-CONSTANT c = rw (eq-eqb _ 1 c.if-mark-eq-CONSTANT.true)

pub returns-then-mark-eq-SHOWN : goal.returns-then-mark-eq-SHOWN
unfolding mark_byte
returns-then-mark-eq-SHOWN c = rw (ne_eqb _ 1 c.if-mark-eq-CONSTANT.false, eq-eqb _ 2 c.if-mark-eq-SHOWN.true)

pub returns : goal.returns
unfolding mark_byte
returns c = rw (ne_eqb _ 1 c.if-mark-eq-CONSTANT.false, ne_eqb _ 2 c.if-mark-eq-SHOWN.false)
