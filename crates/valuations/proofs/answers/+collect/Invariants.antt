-- `collect` ends: each call has a variable less to try.
use mathlib.Core.Path.{◌≡◌}
use Prim.Native.Nat.{◌≤◌}
use lib.ListN.{length}
use Rattle.valuations.proofs.answers.+collect.Given as goal

abbrev pub decreases-collect : goal.decreases-collect
decreases-collect l = l.rest

abbrev pub invariant-loop-at : goal.invariant-loop-at
invariant-loop-at l = (l.found ≤ 64) × (length l.answers ≡ length l.fn.answers)
