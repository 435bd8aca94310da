-- `valid_width`: a width within the limit where it is used, 0 behind the last table.
use mathlib.Core.Bool.{true}
use mathlib.Core.Logic.{◌↔◌}
use mathlib.Core.Path.{◌≡◌}
use Prim.Native.Nat.{◌≤◌}
use borrow.Author.Rules.{rules}
use Rattle.model.specs.Limits.{most_columns}
use Rattle.validity.proofs.Held.{used_iff}
use Rattle.validity.proofs.Tables.{width_iff}
use Rattle.validity.proofs.valid_width.Goals as goal

pub returns-then-used : goal.returns-then-used
returns-then-used c =
    let w = c.args.w in
    let within : (c.contains.result ≡ true) ↔ ((1 ≤ w) × (w ≤ most_columns)) = search rules in
    used_iff _ _ _ c.if-used.true (λ e. (width_iff w).1 (within.0 e), λ h. within.1 ((width_iff w).0 h))
