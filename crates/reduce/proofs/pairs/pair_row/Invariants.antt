-- `pair_row`: the candidates of the line have those of the later lines that were looked at.
use mathlib.Core.Path.{◌≡◌}
use Prim.Native.Nat.{ℕ}
use lib.ListN.{length}
use Rattle.theory.specs.Query.{Query}
use Rattle.words.specs.Bits.{bit}
use Rattle.entering.specs.Worded.{Given}
use Rattle.reduce.specs.PairNumbers.{most_pairs}
use Rattle.reduce.specs.Pairs.{CandidateWord}
use Rattle.reduce.proofs.PairedLines.{RowSome}
use Rattle.reduce.proofs.pairs.pair_row.Given as goal

abbrev pub invariant-loop-rest : goal.invariant-loop-rest
invariant-loop-rest l =
    (length l.table ≡ most_pairs)
    × ((i : ℕ) → bit l.rest i ≡ 1 → bit l.later i ≡ 1)
    × ((Q : Query) (n : ℕ) → Given Q n l.lines l.words → CandidateWord Q l.candidates → RowSome Q l.candidates l.a l.later l.rest l.initial.table l.table)

abbrev pub decreases-loop-rest : goal.decreases-loop-rest
decreases-loop-rest l = l.rest
