-- `find_free`: the free columns of the views before `k` are entered.
use Rattle.covering.proofs.Prepared.{FreeTo}
use Rattle.covering.proofs.preparing.find_free.Given as goal

abbrev pub invariant-loop-k : goal.invariant-loop-k
invariant-loop-k l = FreeTo l.k l.initial.ready l.ready
