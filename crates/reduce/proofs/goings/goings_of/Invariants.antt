-- `goings_of`: the word has the line itself and the targets that were looked at, among the rows that are near.
use Rattle.entering.specs.Worded.{columns_word}
use Rattle.reduce.proofs.KeptColumns.{Kept}
use Rattle.reduce.proofs.GoingPairs.{Targets}
use Rattle.reduce.proofs.goings.goings_of.Given as goal

abbrev pub invariant-loop-rest : goal.invariant-loop-rest
invariant-loop-rest l =
    Kept (columns_word l.words l.a) l.kept × Targets l.n l.lines l.words l.a l.kept l.m l.rest

abbrev pub decreases-loop-rest : goal.decreases-loop-rest
decreases-loop-rest l = l.rest
