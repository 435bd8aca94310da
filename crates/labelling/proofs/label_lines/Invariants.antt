-- `label_lines`: the words written are the labels of the shown lines, of those left before `i`, and the partitions have a view for each.
use mathlib.Core.Path.{◌≡◌}
use Prim.Native.Nat.{ℕ, ◌≤◌}
use lib.ListN.{length, take}
use Rattle.theory.specs.Query.{Query, over}
use Rattle.theory.specs.Executable.Show.{show_term}
use Rattle.words.specs.Bits.{is_set}
use Rattle.model.specs.declared.Tables.{Tables}
use Rattle.policy_text.specs.Declared.{Declared}
use Rattle.entering.specs.Left.{pick, lines_at}
use Rattle.entering.specs.Showing.{SharedWord}
use Rattle.labelling.specs.Posed.{Ready, Rows}
use Rattle.labelling.proofs.Written.{Written}
use Rattle.labelling.proofs.label_lines.Given as goal

abbrev pub invariant-loop-i : goal.invariant-loop-i
invariant-loop-i l =
    (l.count ≤ l.i)
    × ((d : Declared) (t : Tables) (Q : Query) (w : ℕ) → Ready d t l.ready → length Q ≡ l.n → Rows d Q w l.lines → SharedWord (lines_at l.left Q) w
    → Written d (over (show_term (lines_at l.left Q))) (pick (is_set l.left) (take l.i Q)) l.words l.count l.settling)
