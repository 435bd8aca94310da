-- `lay_line`: the terms before column `p` are laid.
use Rattle.model.proofs.LaidTerms.{LaidTo}
use Rattle.model.proofs.rows.lay_line.Given as goal

abbrev pub invariant-loop-p : goal.invariant-loop-p
invariant-loop-p l = LaidTo l.fn.l l.k l.p l.initial.rows l.rows
