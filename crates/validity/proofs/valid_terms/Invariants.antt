-- `valid_terms`: the terms before `i` are entered.
use Rattle.validity.proofs.Columns.{Looked}
use Rattle.validity.proofs.valid_terms.Given as goal

abbrev pub invariant-loop-i : goal.invariant-loop-i
invariant-loop-i l = Looked l.w l.fn.l.terms l.by l.i
