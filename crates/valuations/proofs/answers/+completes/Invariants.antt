-- `completes` ends: each call has a line less to look at.
use Prim.Native.Nat.{◌-◌, ◌/◌}
use lib.ListN.{length}
use Rattle.valuations.proofs.answers.+completes.Given as goal

abbrev pub decreases-completes : goal.decreases-completes
decreases-completes l = length l.lines.now / 17 - l.k
