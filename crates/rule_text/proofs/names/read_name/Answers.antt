use mathlib.Core.Path.{◌≡◌, sym, ap, ◌∙◌}
use Prim.Native.Nat.{◌≤◌}
use native.Mathlib.Omega.{arith}
use lib.ListN.{length, drop}
use Rattle.text.specs.Numeral.{is_digit}
use Rattle.rule_text.proofs.NameRead.{no_byte, too_long, too_low, too_high, no_digits, name_read}
use Rattle.rule_text.proofs.NameRead.{name_none, name_fits, name_more, digit_missing, name_all}
use Rattle.rule_text.proofs.names.read_name.Goals as goal
use Rattle.rule_text.proofs.names.read_name.Goals.{In_ok-first}

pub returns-in_err-first : goal.returns-in_err-first
returns-in_err-first c = c.from_residual.ensures ∙ no_byte _ _ c.in_err-first.ensures.cases

pub returns-then-field-gt-MOST_NAME : goal.returns-then-field-gt-MOST_NAME
returns-then-field-gt-MOST_NAME c = too_long _ c.in_ok-first.ensures.cases.0 c.if-field-gt-MOST_NAME.true

pub returns-then-first-letters : goal.returns-then-first-letters
returns-then-first-letters c = too_low _ c.in_ok-first.ensures.cases.0 c.if-first-letters.true

pub returns-then-letters-first : goal.returns-then-letters-first
returns-then-letters-first c = too_high _ c.in_ok-first.ensures.cases.0 c.if-letters-first.true

-- the bytes behind the first
digits : (c : In_ok-first) → drop 1 c.args.field.now ≡ c.in_ok-first.digits.now
digits c = ap (drop 1) c.in_ok-first.ensures.cases.0

pub loop-c-init : goal.loop-c-init
loop-c-init c =
    name_none _ _ (rw (c.into_iter-c-iterator.ensures.into_iter_gives, c.rev-c-items.ensures.source, c.iter.ensures.rest) (sym (digits (goal.at.loop-c-init c).In_ok-first)))

pub returns-then-not-is_ascii_digit : goal.returns-then-not-is_ascii_digit
unfolding is_digit
returns-then-not-is_ascii_digit c =
    let missing = digit_missing _ _ c.loop-c.invariant c.in-Some.ensures.steps (sym c.if-not-is_ascii_digit.ensures.value) in
    no_digits _ c.in_ok-first.ensures.cases.0 (rw (digits (goal.at.returns-then-not-is_ascii_digit c).In_ok-first) at missing)

few : (c : In_ok-first) → length c.args.field.now ≤ 4 → length (drop 1 c.args.field.now) ≤ 3
few c h = rw (digits c) (omega (arith, c.in_ok-first.ensures.cases.1, h))

pub overflow_mul-key : goal.overflow_mul-key
overflow_mul-key c =
    omega (arith, name_fits c.loop-c.invariant (few (goal.at.overflow_mul-key c).In_ok-first c.if-field-gt-MOST_NAME.false))

pub overflow_add-key : goal.overflow_add-key
overflow_add-key c =
    omega (arith, name_fits c.loop-c.invariant (few (goal.at.overflow_add-key c).In_ok-first c.if-field-gt-MOST_NAME.false), c.if-not-is_ascii_digit.ensures.bound)

pub loop-c-preserved : goal.loop-c-preserved
unfolding is_digit
loop-c-preserved c = name_more _ _ c.loop-c.invariant c.in-Some.ensures.steps (sym c.if-not-is_ascii_digit.ensures.value)

pub overflow_mul-result : goal.overflow_mul-result
overflow_mul-result c =
    omega (arith, name_fits c.loop-c.invariant (few (goal.at.overflow_mul-result c).In_ok-first c.if-field-gt-MOST_NAME.false))

pub overflow_add-result : goal.overflow_add-result
overflow_add-result c =
    omega (arith, name_fits c.loop-c.invariant (few (goal.at.overflow_add-result c).In_ok-first c.if-field-gt-MOST_NAME.false), c.if-letters-first.false, c.requires)

pub returns : goal.returns
returns c =
    let w = name_all c.loop-c.invariant c.in-None.ensures.steps.0 in
    let e = digits (goal.at.returns c).In_ok-first in
    name_read _ c.in_ok-first.ensures.cases.0 c.if-first-letters.false c.if-letters-first.false c.if-field-gt-MOST_NAME.false
    (rw e at w.0) (rw e at w.1)
