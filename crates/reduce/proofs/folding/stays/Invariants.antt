-- `stays`: the columns before `p` keep the variables.
use Rattle.reduce.proofs.GoingAlone.{KeptTo}
use Rattle.reduce.proofs.folding.stays.Given as goal

abbrev pub invariant-loop-p : goal.invariant-loop-p
invariant-loop-p l = KeptTo l.lines l.i l.b l.others l.p
