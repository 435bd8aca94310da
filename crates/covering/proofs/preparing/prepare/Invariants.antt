-- `prepare`: the views before `k` are entered.
use Rattle.covering.proofs.Prepared.{Partly}
use Rattle.covering.proofs.preparing.prepare.Given as goal

abbrev pub invariant-loop-k : goal.invariant-loop-k
invariant-loop-k l = Partly l.p l.k l.ready
