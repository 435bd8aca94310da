-- `column_of`: no column before `q` has the term.
use Rattle.reduce.proofs.FirstColumns.{NoneBefore}
use Rattle.reduce.proofs.columns.column_of.Given as goal

abbrev pub invariant-loop-q : goal.invariant-loop-q
invariant-loop-q l = NoneBefore l.lines l.b l.t l.q
