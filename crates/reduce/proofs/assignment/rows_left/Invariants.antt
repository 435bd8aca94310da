-- `rows_left`: what is left to look at are lines of `rows`; one without a target is an answer.
use Prim.Native.Nat.{ℕ, ◌≤◌}
use mathlib.Core.Path.{◌≡◌}
use Rattle.words.specs.Bits.{bit}
use Rattle.reduce.proofs.assignment.rows_left.Given as goal

abbrev pub invariant-loop-rest : goal.invariant-loop-rest
invariant-loop-rest l = (l.rest ≤ l.rows) × ((i : ℕ) → bit l.rest i ≡ 1 → bit l.rows i ≡ 1)

abbrev pub decreases-loop-rest : goal.decreases-loop-rest
decreases-loop-rest l = l.rest
