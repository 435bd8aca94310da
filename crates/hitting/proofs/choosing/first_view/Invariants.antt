-- `first_view`: none of the views before place `v` leads, and a later one does.
use Rattle.hitting.proofs.Leading.{Unled}
use Rattle.hitting.proofs.choosing.first_view.Given as goal

abbrev pub invariant-loop-v : goal.invariant-loop-v
invariant-loop-v l = Unled l.hits l.costs l.table l.m l.v
