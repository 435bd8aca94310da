-- `rules_room`: the array has as many elements as its type says, by a law over every number, since this one is too large to be computed
-- with.
use Prim.Native.Nat.{ℕ}
use mathlib.Core.Path.{◌≡◌}
use lib.ListN.{length, replicate, length-replicate}
use Rattle.mode_rules.specs.Sizes.{rules_room}
use Rattle.mode_rules.proofs.rules_room.Goals as goal

as_many : (n : ℕ) → n ≡ length {A = ℕ} (replicate n 0)
as_many n = simp length-replicate

pub returns : goal.returns
returns c = as_many rules_room
