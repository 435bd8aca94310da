-- One digit alone, or the first is not 0.
use Prim.Native.Nat.{◌≤◌}
use native.Mathlib.Omega.{arith}
use Rattle.text.specs.Numeral.{constant_limit}
use Rattle.text.proofs.Numerals.{word_within}
use Rattle.scan.proofs.Digits.{one_digit, many_digits}
use Rattle.scan.proofs.numbers.numeral_between.Goals as goal
use Rattle.scan.proofs.numbers.numeral_between.Goals.{Start}

small : (c : Start) → c.args.value ≤ constant_limit
small c = word_within c.args.value (omega (arith, c.ranges.value))

pub returns-then-end-at-2 : goal.returns-then-end-at-2
returns-then-end-at-2 c = one_digit c.requires.digits_between (small (goal.at.returns-then-end-at-2 c).Start) c.if-end-at-2.true

pub returns : goal.returns
returns c =
    many_digits c.requires.digits_between (small (goal.at.returns c).Start) c.if-end-at.false c.if-end-at-2.false c.if-text-at-eq48.false
