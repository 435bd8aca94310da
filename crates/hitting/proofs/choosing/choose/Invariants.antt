-- `choose`: the views so far go on with what is chosen for what is left.
use Rattle.hitting.proofs.Leading.{ChosenTo}
use Rattle.hitting.proofs.choosing.choose.Given as goal

abbrev pub invariant-loop-left : goal.invariant-loop-left
invariant-loop-left l = ChosenTo l.hits l.costs l.m l.r l.left

abbrev pub decreases-loop-left : goal.decreases-loop-left
decreases-loop-left l = l.left
