-- `valid_views`: the count, and the view at each place.
use mathlib.Core.Bool.{true}
use mathlib.Core.Logic.{◌↔◌}
use mathlib.Core.Path.{◌≡◌}
use Prim.Native.Nat.{ℕ, ◌<◌}
use lib.Dec.{ltb}
use lib.ListN.{get_or}
use borrow.Author.Rules.{rules}
use Rattle.model.specs.Limits.{most_views}
use Rattle.model.proofs.Values.{mapped_long}
use Rattle.validity.specs.Parts.{ViewPlace}
use Rattle.validity.proofs.Views.{no_line, views_checked, checked_views}
use Rattle.validity.proofs.valid_views.Goals as goal

pub returns-then-counted : goal.returns-then-counted
returns-then-counted c widths tables =
    let p = c.args.p in
    let each : (c.all.result ≡ true) ↔ ((k : ℕ) → k < most_views → ViewPlace widths (ltb k p.view_count) (get_or p.views k no_line)) =
    search rules in (
      λ e. checked_views widths _ _ (search (rules, mapped_long))
          (record { counted = c.counted.ensures.0 c.if-counted.true; places = each.0 e }),
      λ h. each.1 (views_checked widths _ _ h).places,
    )
