-- `stands`: the row is none of those from `from` on, before `k`.
use mathlib.Core.Path.{◌≡◌}
use Prim.Native.Nat.{ℕ, ◌≤◌, ◌<◌}
use Rattle.apart.specs.Buffer.{cells_at}
use Rattle.apart.proofs.buffer.stands.Given as goal

abbrev pub invariant-loop-k : goal.invariant-loop-k
invariant-loop-k l = (j : ℕ) → j < l.k → l.from ≤ j → cells_at l.out j ≡ l.cells → ⊥
