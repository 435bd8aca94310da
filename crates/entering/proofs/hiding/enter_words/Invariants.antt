-- `enter_words`: the three words have the hidden variables of the columns before `p`, and are then written behind one another.
use Prim.Native.Nat.{◌≤◌}
use lib.ListN.{length}
use Rattle.theory.specs.Query.{Line as TheLine}
use Rattle.model.specs.Limits.{most_columns}
use Rattle.model.specs.Rows.{LaidAt}
use Rattle.model.specs.Value.{line_value}
use Rattle.entering.specs.Showing.{SmallLine}
use Rattle.entering.proofs.LineWords.{ColumnsEntered}
use Rattle.entering.proofs.hiding.enter_words.Given as goal

abbrev pub invariant-loop-p : goal.invariant-loop-p
invariant-loop-p l =
    (A : TheLine) → LaidAt l.rows l.i (line_value A) → length A.columns ≤ most_columns → SmallLine A
    → ColumnsEntered A l.p l.columns l.hidden l.twice
