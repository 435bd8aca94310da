-- The lines of a query laid out as numbers.
use Rattle.std.specs.Prelude.{◌≡◌, List, ℕ, ◌≤◌, ◌<◌, length}
use Rattle.theory.specs.Query.{Query, ◌∈◌}
use Rattle.theory.specs.Query.{Line as TheLine}
use Rattle.model.specs.Limits.{most_lines, most_columns}
use Rattle.model.specs.Rows.{LaidAt}
use Rattle.model.specs.Value.{line_value, query_value}
use Rattle.model.specs.declared.Query.{Query as QueryValue}
use Rattle.entering.specs.Agree.{line_at}

-- q holds the query Q, which is within the limits of its shape
pub record HoldsQuery (q : QueryValue) (Q : Query) : Type 0 where
  pub is : q ≡ query_value Q
  pub lines : length Q ≤ most_lines
  pub columns : (A : TheLine) → A ∈ Q → length A.columns ≤ most_columns

-- the rows hold such a query, line i in row i
pub record Laid (Q : Query) (rows : List ℕ) : Type 0 where
  pub lines : length Q ≤ most_lines
  pub columns : (A : TheLine) → A ∈ Q → length A.columns ≤ most_columns
  pub row : (i : ℕ) → i < length Q → LaidAt rows i (line_value (line_at Q i))
