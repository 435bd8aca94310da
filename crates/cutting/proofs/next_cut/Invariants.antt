-- The loop's invariant: the lines passed are the bytes of the query begun.
use Prim.Native.Nat.{◌-◌}
use lib.ListN.{length}
use Rattle.cutting.proofs.Walk.{Walked}
use Rattle.cutting.proofs.next_cut.Given as goal

abbrev pub invariant-loop-at : goal.invariant-loop-at
invariant-loop-at l = Walked l.input l.at

abbrev pub decreases-loop-at : goal.decreases-loop-at
decreases-loop-at l = length l.input - l.at
