-- Document 01, "A query text is well formed under a policy when none of 7, 1, 2, 4, 5 and 6, as listed for deciding, turns it
-- back": the queries that such a text says, told by the query alone.
use Rattle.std.specs.Prelude.{List, ℕ, ◌≤◌, T, length}
use Rattle.theory.specs.Query.{Line, Query, ◌∈◌, NoClash}
use Rattle.theory.specs.Archive.{AllFit}
use Rattle.model.specs.Limits.{most_lines, line_within}
use Rattle.query_text.specs.Text.{most_query_bytes}
use Rattle.query_text.specs.Print.{query_text}

-- under tables of these widths
pub record WellRead (widths : List ℕ) (Q : Query) : Type 0 where
  -- "lines in a query 1 to 8": else an empty block (1), or a ninth line (7)
  pub nonempty : 1 ≤ length Q
  pub few : length Q ≤ most_lines
  -- "A query or view line has at least one term, else it is malformed" (1)
  pub terms : (A : Line) → A ∈ Q → 1 ≤ length A.columns
  -- "2: a number outside its limits"
  pub within : (A : Line) → A ∈ Q → T (line_within A)
  -- "4: an unknown table", "5: terms fewer or more than the columns"
  pub fits : AllFit widths Q
  -- "6: one variable number both shown and hidden"
  pub clear : NoClash Q
  -- "query text at most 4,096" bytes (7)
  pub short : length (query_text Q) ≤ most_query_bytes
