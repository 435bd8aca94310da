-- `pair_words`: the entries of the lines that were looked at are as they should be, and the others are empty.
use mathlib.Core.Path.{◌≡◌}
use Prim.Native.Nat.{ℕ, ◌<◌}
use lib.ListN.{length}
use Rattle.theory.specs.Query.{Query}
use Rattle.words.specs.Bits.{bit}
use Rattle.model.specs.Limits.{most_lines}
use Rattle.entering.specs.Worded.{Given}
use Rattle.reduce.specs.PairNumbers.{most_pairs}
use Rattle.reduce.specs.Pairs.{CandidateWord}
use Rattle.reduce.proofs.PairedLines.{LinesPaired}
use Rattle.reduce.proofs.pairs.pair_words.Given as goal

abbrev pub invariant-loop-rest : goal.invariant-loop-rest
invariant-loop-rest l =
    (length l.table ≡ most_pairs)
    × ((i : ℕ) → bit l.rest i ≡ 1 → i < most_lines)
    × ((Q : Query) (n : ℕ) → Given Q n l.lines l.words → CandidateWord Q l.candidates → LinesPaired Q l.rows l.candidates l.rest l.table)

abbrev pub decreases-loop-rest : goal.decreases-loop-rest
decreases-loop-rest l = l.rest
