-- `hits_of`: the views before place `v`.
use Rattle.grants.proofs.Gathering.{HitsTo}
use Rattle.grants.proofs.searching.hits_of.Given as goal

abbrev pub invariant-loop-v : goal.invariant-loop-v
invariant-loop-v l = HitsTo l.fn.l l.hit-items l.v
