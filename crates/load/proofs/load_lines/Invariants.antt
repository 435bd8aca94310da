-- The loop's invariant: loading the rest of the text from here gives what loading all of it gives.
use Prim.Native.Nat.{◌-◌}
use lib.ListN.{length}
use Rattle.load.proofs.Walk.{Walked}
use Rattle.load.proofs.load_lines.Given as goal

abbrev pub invariant-loop-at : goal.invariant-loop-at
invariant-loop-at l = Walked l.text l.start l.g l.line l.at

abbrev pub decreases-loop-at : goal.decreases-loop-at
decreases-loop-at l = length l.text - l.at
