-- `granting`: the words before `k` have the partition.
use Rattle.load.proofs.GrantWords.{Partly}
use Rattle.load.proofs.enter.granting.Given as goal

abbrev pub invariant-loop-k : goal.invariant-loop-k
invariant-loop-k l = Partly l.views l.i l.k l.fn.grants l.g-items
