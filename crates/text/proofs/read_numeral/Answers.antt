use mathlib.Core.Path.{◌≡◌, sym, ap, ◌∙◌}
use mathlib.Core.Bool.{not}
use mathlib.Core.List.{List}
use Prim.Native.Nat.{ℕ, ◌-◌, ◌<◌}
use native.Mathlib.Omega.{arith}
use lib.ListN.{length, get_or, take, length-take}
use Rattle.std.proofs.lemmas.List.{get_or-take}
use Rattle.text.proofs.Numerals.{Digits, digits_more, digits_broken, digits_all, digits_fit, digit_taken, digit_broken, no_byte, too_long, badly_led, no_digit, valued}
use Rattle.text.proofs.read_numeral.Goals as goal
use Rattle.text.proofs.read_numeral.Goals.{In-loop-b, After-digit-d-2, then-n-eq0-via-then-n-eq0, then-n-eq0-via-else-n-eq0+then-n-gt-MOST_DIGITS, then-n-eq0-via-else-n-eq0+else-n-gt-MOST_DIGITS+then-leading_zero}

pub returns-then-n-eq0 : goal.returns-then-n-eq0
returns-then-n-eq0 c =
    elim c.then-n-eq0.branch [
      | then-n-eq0-via-then-n-eq0 w ↦ no_byte _ w.if-n-eq0.true
      | then-n-eq0-via-else-n-eq0+then-n-gt-MOST_DIGITS w ↦ too_long _ (omega arith)
      | then-n-eq0-via-else-n-eq0+else-n-gt-MOST_DIGITS+then-leading_zero w ↦
          badly_led _ (sym (w.leading_zero.ensures (omega arith)) ∙ ap not w.if-leading_zero.true)
    ]

-- ---- the digits before the last

before : (c : In-loop-b) → c.loop-b.b-index < length c.args.field.now - 1
before c = omega (arith, length-take {A = ℕ})

-- what is read there is the field's own byte
byte : (c : In-loop-b) → let s = c.args.field.now in get_or (take (length s - 1) s) c.loop-b.b-index 0 ≡ get_or s c.loop-b.b-index 0
byte c = get_or-take (length c.args.field.now - 1) c.args.field.now c.loop-b.b-index 0 (before c)

pub returns-then-d-gt9 : goal.returns-then-d-gt9
returns-then-d-gt9 c =
    let here = (goal.at.returns-then-d-gt9 c).In-loop-b in
    let h = before here in
    no_digit _
    (digits_broken c.loop-b.invariant (omega arith)
    (digit_broken _ _ (rw (byte here) at c.digit-d.ensures.value) (omega arith)))

pub overflow_mul-value : goal.overflow_mul-value
overflow_mul-value c =
    let h = before (goal.at.overflow_mul-value c).In-loop-b in omega (arith, digits_fit c.loop-b.invariant (omega arith))

pub overflow_add-value : goal.overflow_add-value
overflow_add-value c =
    let h = before (goal.at.overflow_add-value c).In-loop-b in omega (arith, digits_fit c.loop-b.invariant (omega arith))

pub loop-b-preserved : goal.loop-b-preserved
loop-b-preserved c =
    let here = (goal.at.loop-b-preserved c).In-loop-b in
    let h = before here in
    digits_more c.loop-b.invariant (omega arith) (omega arith)
    (digit_taken _ _ (rw (byte here) at c.digit-d.ensures.lower_bound) (rw (byte here) at c.digit-d.ensures.value) (omega arith))

-- ---- the last

abbrev bytes : After-digit-d-2 → List ℕ
bytes c = c.args.field.now

before_last : (c : After-digit-d-2) → Digits (bytes c) c.loop-b.value (length (bytes c) - 1)
before_last c =
    let last : c.loop-b.b-index ≡ length (bytes c) - 1 = omega (arith, c.loop-b-test.false, length-take {A = ℕ}) in
    rw last at c.loop-b.invariant

pub returns-then-d-gt9-2 : goal.returns-then-d-gt9-2
returns-then-d-gt9-2 c =
    no_digit _
    (digits_broken (before_last (goal.at.returns-then-d-gt9-2 c).After-digit-d-2) (omega arith) (digit_broken _ _ c.digit-d-2.ensures.value (omega arith)))

pub returns : goal.returns
returns c =
    c.with_digit.ensures
    ∙ valued (bytes (goal.at.returns c).After-digit-d-2) _ (sym (c.leading_zero.ensures (omega arith)) ∙ ap not c.if-leading_zero.false) (omega arith)
    (digits_all
    (digits_more (before_last (goal.at.returns c).After-digit-d-2) (omega arith) (omega arith)
    (digit_taken _ _ c.digit-d-2.ensures.lower_bound c.digit-d-2.ensures.value (omega arith)))
    (omega arith))
