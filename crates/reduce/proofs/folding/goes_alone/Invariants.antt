-- `goes_alone`: what is left are targets.
use mathlib.Core.Path.{◌≡◌}
use Prim.Native.Nat.{ℕ}
use Rattle.words.specs.Bits.{bit}
use Rattle.reduce.proofs.folding.goes_alone.Given as goal

abbrev pub invariant-loop-rest : goal.invariant-loop-rest
invariant-loop-rest l = (b : ℕ) → bit l.rest b ≡ 1 → bit l.targets b ≡ 1

abbrev pub decreases-loop-rest : goal.decreases-loop-rest
decreases-loop-rest l = l.rest
