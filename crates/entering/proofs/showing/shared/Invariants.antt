-- `shared`: the words hold what was seen in the lines left before `i`.
use mathlib.Core.Path.{◌≡◌}
use lib.ListN.{length, take}
use Rattle.theory.specs.Query.{Query}
use Rattle.words.specs.Bits.{is_set}
use Rattle.entering.specs.Left.{pick}
use Rattle.entering.specs.Worded.{Worded}
use Rattle.entering.proofs.Seen.{Seen}
use Rattle.entering.proofs.showing.shared.Given as goal

abbrev pub invariant-loop-i : goal.invariant-loop-i
invariant-loop-i l =
    (Q : Query) → length Q ≡ l.n → Worded Q l.words → Seen (pick (is_set l.left) (take l.i Q)) l.once l.twice
