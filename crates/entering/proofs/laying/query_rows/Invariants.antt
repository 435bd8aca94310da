-- `query_rows`: the lines before `i` are laid.
use mathlib.Core.Path.{◌≡◌}
use lib.ListN.{length}
use Rattle.theory.specs.Query.{Query}
use Rattle.model.specs.Rows.{query_rows_long}
use Rattle.model.proofs.LaidTerms.{RowsTo}
use Rattle.entering.specs.Laid.{HoldsQuery}
use Rattle.entering.proofs.LaidRows.{value_at}
use Rattle.entering.proofs.laying.query_rows.Given as goal

abbrev pub invariant-loop-i : goal.invariant-loop-i
invariant-loop-i l = (length l.lines ≡ query_rows_long) × ((Q : Query) → HoldsQuery l.fn.q Q → RowsTo (value_at Q) l.i l.lines)
