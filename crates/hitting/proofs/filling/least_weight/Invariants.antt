-- `least_weight`: the least of the weights with the views before place `v`.
use Rattle.hitting.proofs.LeastWeight.{LeastTo}
use Rattle.hitting.proofs.filling.least_weight.Given as goal

abbrev pub invariant-loop-v : goal.invariant-loop-v
invariant-loop-v l = LeastTo l.hits l.costs l.table l.m l.v l.least
