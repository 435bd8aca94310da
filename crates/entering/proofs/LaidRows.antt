-- The rows of a query, once each line has its row.
use Prim.Native.Nat.{ℕ, ◌≤◌}
use mathlib.Core.List.{List}
use native.Mathlib.Omega.{arith}
use lib.ListN.{length}
use Rattle.theory.specs.Query.{Query}
use Rattle.model.specs.Value.{line_value}
use Rattle.model.specs.declared.Line.{Line}
use Rattle.model.specs.declared.Query.{Query as QueryValue}
use Rattle.model.proofs.LaidTerms.{RowsTo}
use Rattle.entering.specs.Agree.{line_at}
use Rattle.entering.specs.Laid.{HoldsQuery, Laid}

-- the value of the line at a place
abbrev pub value_at : Query → ℕ → Line
value_at Q i = line_value (line_at Q i)

pub rows_all : {q : QueryValue} {Q : Query} (i : ℕ) {rows : List ℕ} → HoldsQuery q Q → length Q ≤ i
    → RowsTo (value_at Q) i rows → Laid Q rows
rows_all i held h r = record { lines = held.lines; columns = held.columns; row = λ j b. r j (omega arith) }
