-- `enter_query`: the words of the lines before `i` are entered.
use mathlib.Core.Path.{◌≡◌}
use lib.ListN.{length}
use Rattle.theory.specs.Query.{Query}
use Rattle.entering.specs.Laid.{Laid}
use Rattle.entering.specs.Showing.{Small}
use Rattle.entering.specs.Worded.{query_words_long}
use Rattle.entering.proofs.LineWords.{WordedTo}
use Rattle.entering.proofs.hiding.enter_query.Given as goal

abbrev pub invariant-loop-i : goal.invariant-loop-i
invariant-loop-i l =
    (length l.words ≡ query_words_long)
    × ((Q : Query) → length Q ≡ l.n → Laid Q l.rows → Small Q → WordedTo Q l.i l.words)
