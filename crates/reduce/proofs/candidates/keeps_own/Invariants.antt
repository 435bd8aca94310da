-- `keeps_own`: row t has in the columns before `p` what it has in the first column of the variable there.
use Rattle.reduce.proofs.OwnTerms.{OwnTo}
use Rattle.reduce.proofs.candidates.keeps_own.Given as goal

abbrev pub invariant-loop-p : goal.invariant-loop-p
invariant-loop-p l = OwnTo l.lines l.i l.t l.twice l.p
