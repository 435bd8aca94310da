-- `fold`: all lines can be sent to those in `rows` once the lines from `i` on were tried.
use Prim.Native.Nat.{◌^◌, ◌<◌}
use Rattle.theory.specs.Query.{Query}
use Rattle.entering.specs.Left.{Folds}
use Rattle.entering.specs.Worded.{Given}
use Rattle.reduce.specs.Pairs.{CandidateWord}
use Rattle.reduce.proofs.folding.fold.Given as goal

abbrev pub invariant-loop-i : goal.invariant-loop-i
invariant-loop-i l =
    (l.rows < 2 ^ l.n) × ((Q : Query) → Given Q l.n l.lines l.words → CandidateWord Q l.candidates → Folds Q l.rows)
