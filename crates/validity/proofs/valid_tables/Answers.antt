-- `valid_tables`: the count, and the width at each place.
use mathlib.Core.Bool.{true, not}
use mathlib.Core.Logic.{◌↔◌}
use mathlib.Core.Path.{◌≡◌, ap}
use Prim.Native.Nat.{ℕ, ◌<◌}
use lib.Dec.{ltb}
use lib.ListN.{get_or}
use borrow.Author.Rules.{rules}
use Rattle.words.proofs.Answers.{no_iff, fails}
use Rattle.model.specs.Limits.{most_tables}
use Rattle.validity.specs.Parts.{WidthPlace}
use Rattle.validity.proofs.Tables.{tables_checked, checked_tables}
use Rattle.validity.proofs.valid_tables.Goals as goal

pub returns-then-counted : goal.returns-then-counted
returns-then-counted c =
    let t = c.args.t in
    let each : (c.all.result ≡ true) ↔ ((k : ℕ) → k < most_tables → WidthPlace (ltb k t.count) (get_or t.columns k 0)) =
    search rules in (
      λ e. checked_tables t (search rules) (record { counted = c.counted.ensures.0 c.if-counted.true; places = each.0 e }),
      λ r. each.1 (tables_checked t r).places,
    )

pub returns-else-counted : goal.returns-else-counted
returns-else-counted c =
    rw c.if-counted.false (no_iff (λ r. fails c.counted.ensures (ap not c.if-counted.false) (tables_checked c.args.t r).counted))
