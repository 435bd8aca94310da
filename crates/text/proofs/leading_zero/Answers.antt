-- A field of one byte is led well; in a longer one the first byte decides.
use native.Mathlib.Omega.{arith}
use borrow.Author.Tests.{le-ltb}
use Rattle.text.proofs.Numerals.{leads_alone, leads_others}
use Rattle.text.proofs.leading_zero.Goals as goal

pub returns-then-field-gt1 : goal.returns-then-field-gt1
returns-then-field-gt1 c h = leads_others _ c.if-field-gt1.true

pub returns-else-field-gt1 : goal.returns-else-field-gt1
returns-else-field-gt1 c h = rw (le-ltb _ _ c.if-field-gt1.false) (leads_alone _ h (omega arith))
