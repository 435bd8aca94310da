-- `with_digit`: what the limit leaves beside the digit, divided by 10, is the most that the number before it may be.
use native.Mathlib.Omega.{arith}
use Rattle.text.specs.Numeral.{constant_limit}
use Rattle.text.proofs.Numerals.{past, within_limit}
use Rattle.text.proofs.with_digit.Goals as goal

pub returns-then-d-value : goal.returns-then-d-value
unfolding constant_limit
returns-then-d-value c = past _ (omega (arith, c.if-d-value.true))

pub returns : goal.returns
unfolding constant_limit
returns c = within_limit _ (omega (arith, c.if-d-value.false))
