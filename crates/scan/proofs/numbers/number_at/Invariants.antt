-- The loop's invariant: digits stand from the place on, fewer than a numeral may have, and stand for the value.
use Prim.Native.Nat.{◌+◌, ◌-◌, ◌^◌, ◌<◌}
use Rattle.text.specs.Numeral.{most_digits}
use Rattle.scan.specs.Places.{DigitsBetween}
use Rattle.scan.proofs.numbers.number_at.Given as goal

abbrev pub invariant-loop-i : goal.invariant-loop-i
invariant-loop-i l = DigitsBetween l.text l.at l.i l.value × (l.i < l.at + most_digits) × (l.value < 10 ^ (l.i - l.at))
