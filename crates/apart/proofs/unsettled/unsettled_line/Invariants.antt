-- `unsettled_line`: the partition has a view for each of the lines left before `k`.
use mathlib.Core.Path.{◌≡◌}
use mathlib.Core.Bool.{true}
use mathlib.Core.Option.{some}
use mathlib.Core.List.{List}
use Prim.Native.Nat.{ℕ, ◌<◌}
use lib.ListN.{length, get_elem?}
use Rattle.theory.specs.Query.{Query}
use Rattle.words.specs.Bits.{is_set}
use Rattle.model.specs.declared.Tables.{Tables}
use Rattle.policy_text.specs.Declared.{Declared}
use Rattle.entering.specs.Left.{lines_at}
use Rattle.entering.specs.Showing.{SharedWord}
use Rattle.labelling.specs.Posed.{Ready, Rows}
use Rattle.apart.specs.Unsettled.{AnswersLine}
use Rattle.apart.proofs.unsettled.unsettled_line.Given as goal

abbrev pub invariant-loop-k : goal.invariant-loop-k
invariant-loop-k l =
    (d : Declared) (t : Tables) (Q : Query) (w : ℕ) (ns : List ℕ) → Ready d t l.ready → length Q ≡ l.n → Rows d Q w l.lines
    → SharedWord (lines_at l.left Q) w → get_elem? d.partitions l.i ≡ some ns
    → (j : ℕ) → j < l.k → is_set l.left j ≡ true → AnswersLine d Q l.left j ns
