-- `valid_grants`: the count, and the word at each place.
use mathlib.Core.Bool.{true}
use mathlib.Core.Logic.{◌↔◌}
use mathlib.Core.Path.{◌≡◌}
use Prim.Native.Nat.{ℕ, ◌<◌}
use lib.Dec.{ltb}
use lib.ListN.{get_or}
use borrow.Author.Rules.{rules}
use Rattle.model.specs.Limits.{most_views}
use Rattle.validity.specs.Parts.{GrantPlace}
use Rattle.validity.proofs.Partitions.{partitions_granted, granted_partitions}
use Rattle.validity.proofs.valid_grants.Goals as goal

pub returns-then-counted : goal.returns-then-counted
returns-then-counted c =
    let a = c.args in
    let each : (c.all.result ≡ true) ↔ ((k : ℕ) → k < most_views → GrantPlace a.n (ltb k a.views) (get_or a.grants k 0)) =
    search rules in (
      λ e. granted_partitions _ _ _ c.requires (search rules)
          (record { counted = c.counted.ensures.0 c.if-counted.true; places = each.0 e }),
      λ h. each.1 (partitions_granted _ _ _ h).places,
    )
