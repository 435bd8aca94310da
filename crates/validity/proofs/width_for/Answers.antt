-- `width_for`: by where the line stands, and by its table.
use mathlib.Core.Bool.{true}
use native.Mathlib.Omega.{arith}
use Rattle.validity.specs.Entries.{of_view_lem, of_none, of_wrong}
use borrow.Author.Tests.{not-true, not-false}
use mathlib.Core.Path.{ap}
use mathlib.Core.Bool.{not}
use Rattle.validity.proofs.width_for.Goals as goal

pub returns-then-table-eq0 : goal.returns-then-table-eq0
returns-then-table-eq0 c = rw (not-true c.args.used (ap not c.if-not-used.true)) (of_none c.if-table-eq0.true)

pub returns-then-not-used : goal.returns-then-not-used
returns-then-not-used c = rw (not-true c.args.used (ap not c.if-not-used.true)) (of_wrong c.if-table-eq0.false)

pub returns-then-table-eq0-2 : goal.returns-then-table-eq0-2
returns-then-table-eq0-2 c =
    rw (not-false c.args.used (ap not c.if-not-used.false))
    (of_wrong {used = true} (λ h. omega (arith, h.0, c.if-table-eq0-2.true)))

pub returns-then-count-at : goal.returns-then-count-at
returns-then-count-at c =
    rw (not-false c.args.used (ap not c.if-not-used.false))
    (of_wrong {used = true} (λ h. omega (arith, h.0, h.1, c.if-count-at.true)))

pub returns : goal.returns
returns c =
    rw (not-false c.args.used (ap not c.if-not-used.false))
    (of_view_lem (omega (arith, c.if-table-eq0-2.false)) (omega (arith, c.if-table-eq0-2.false, c.if-count-at.false)))
