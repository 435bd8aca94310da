-- The first digit is not 0, and the second counts where it is one.
use mathlib.Core.Path.{◌≡◌}
use Prim.Native.Nat.{◌≤◌}
use native.Mathlib.Omega.{arith}
use lib.ListN.{get_or}
use Rattle.text.specs.Print.{digit}
use Rattle.scan.proofs.Digits.{table_one, table_two, digit_byte}
use Rattle.scan.proofs.numbers.table_at.Goals as goal
use Rattle.scan.proofs.numbers.table_at.Goals.{After-digit-d, After-digit-e, Else-d-eq0}

-- the first digit
abbrev at_first : Else-d-eq0 → After-digit-d
at_first c = (goal.at.Else-d-eq0 c).After-digit-d

first : (c : Else-d-eq0) → let d = at_first c in (1 ≤ d.digit-d.result) × (d.digit-d.result ≤ 9)
first c = (omega (arith, c.if-d-eq0.false), omega (arith, c.if-d-gt9.false))

first_byte : (c : Else-d-eq0) → let d = at_first c in
    get_or d.args.text.now d.args.at 0 ≡ digit d.digit-d.result
first_byte c = let e = (at_first c).digit-d.ensures in digit_byte _ _ e.lower_bound e.value (first c).1

abbrev of-second : After-digit-e → Else-d-eq0
of-second c = (goal.at.After-digit-e c).Else-d-eq0

pub returns-then-e-gt9 : goal.returns-then-e-gt9
returns-then-e-gt9 c =
    let d = of-second (goal.at.returns-then-e-gt9 c).After-digit-e in
    (table_one _ _ (first d).0 (first d).1 (omega arith) (first_byte d), (first d).0)

pub returns : goal.returns
returns c =
    let d = of-second (goal.at.returns c).After-digit-e in
    let e = c.digit-e.ensures in (
      table_two _ _ (first d).0 (first d).1 (omega arith) (first_byte d) _ (omega arith) (omega arith)
          (digit_byte _ _ e.lower_bound e.value (omega arith)),
      omega (arith, first d),
    )
