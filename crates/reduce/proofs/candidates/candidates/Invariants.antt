-- `candidates`: of the pairs of two lines that were looked at, those that do not go by themselves are out.
use Prim.Native.Nat.{ℕ}
use Rattle.theory.specs.Query.{Query}
use Rattle.entering.specs.Worded.{Given}
use Rattle.reduce.specs.Pairs.{Goings, Candidate}
use Rattle.reduce.proofs.Looked.{Sieved}
use Rattle.reduce.proofs.candidates.candidates.Given as goal

abbrev pub invariant-loop-rest : goal.invariant-loop-rest
invariant-loop-rest l =
    (Q : Query) (n : ℕ) → Given Q n l.lines l.words → Goings Q l.goings → Sieved (Candidate Q) l.goings l.rest l.m

abbrev pub decreases-loop-rest : goal.decreases-loop-rest
decreases-loop-rest l = l.rest
