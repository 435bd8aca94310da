-- `put_terms`: the terms passed are written.
use Rattle.printing.proofs.Put.{FirstPut}
use Rattle.printing.proofs.put_terms.Given as goal

abbrev pub invariant-loop-t : goal.invariant-loop-t
invariant-loop-t l = FirstPut l.fn.line l.initial.out l.start l.t-index l.out l.at
