use mathlib.Core.Path.{◌≡◌}
use mathlib.Core.List.{List}
use Prim.Native.Nat.{ℕ, suc, ◌+◌, ◌-◌, ◌*◌, ◌^◌, ◌≤◌, ◌<◌}
use native.Mathlib.Nat.{pow-suc, pow-le-pow_right}
use native.Mathlib.Omega.{arith}
use lib.Dec.{lit<}
use Rattle.text.specs.Numeral.{most_digits}
use Rattle.text.proofs.Numerals.{digit_taken}
use Rattle.scan.specs.Places.{DigitsBetween}
use Rattle.scan.proofs.Digits.{no_digits, more_digits}
use Rattle.scan.proofs.numbers.number_at.Goals as goal
use Rattle.scan.proofs.numbers.number_at.Goals.{At-loop-i, Else-d-gt9, Else-i-at}

pub loop-i-init : goal.loop-i-init
loop-i-init c =
    let at = c.args.at in
    let none : at - at ≡ 0 = omega arith in
    (no_digits at c.requires.within, omega arith, rw none (lit< tt))

-- ---- one digit more

abbrev turn : Else-d-gt9 → At-loop-i
turn c = (goal.at.Else-d-gt9 c).At-loop-i

abbrev bytes : Else-d-gt9 → List ℕ
bytes c = (turn c).args.text.now

abbrev place : Else-d-gt9 → ℕ
place c = (turn c).args.at

more : (c : Else-d-gt9)
    → DigitsBetween (bytes c) (place c) ((turn c).loop-i.i + 1) ((turn c).loop-i.value * 10 + c.digit-d.result)
more c =
    let d = c.digit-d.ensures in
    more_digits (turn c).loop-i.invariant.0 (omega arith) (turn c).loop-i.invariant.1 (digit_taken _ _ d.lower_bound d.value (omega arith))

pub numeral_with-requires : goal.numeral_with-requires
numeral_with-requires c =
    record {
      text_len_bound = (turn (goal.at.numeral_with-requires c).Else-d-gt9).requires.short;
      d_bound = (omega arith, more (goal.at.numeral_with-requires c).Else-d-gt9);
    }

-- ---- behind fewer digits than come before the last

small : (c : Else-i-at) → (turn (goal.at.Else-i-at c).Else-d-gt9).loop-i.value < 10 ^ (most_digits - 2)
small c =
    let l = (turn (goal.at.Else-i-at c).Else-d-gt9).loop-i in
    let few : l.i - place (goal.at.Else-i-at c).Else-d-gt9 ≤ most_digits - 2 = omega (arith, l.invariant.0.there.long, l.invariant.1, c.if-i-at.false) in
    omega (arith, l.invariant.2, pow-le-pow_right {n = 10} (lit< tt) few)

pub overflow_mul-value : goal.overflow_mul-value
overflow_mul-value c = omega (arith, small c)

pub overflow_add-value : goal.overflow_add-value
overflow_add-value c = omega (arith, small c)

pub loop-i-preserved : goal.loop-i-preserved
loop-i-preserved c =
    let l = (turn (goal.at.loop-i-preserved c).Else-d-gt9).loop-i in
    let at = place (goal.at.loop-i-preserved c).Else-d-gt9 in
    let long : l.i + 1 - at ≡ suc (l.i - at) = omega (arith, l.invariant.0.there.long) in (
      more (goal.at.loop-i-preserved c).Else-d-gt9,
      omega (arith, l.invariant.1, c.if-i-at.false),
      rw (long, pow-suc) (omega (arith, l.invariant.2)),
    )
