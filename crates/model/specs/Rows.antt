-- Lines laid out as numbers, which are lent where a line would be copied: a row is a table and then the mark and the number of
-- each term, and row k stands behind the first k.
use Rattle.std.specs.Prelude.{◌≡◌, List, ℕ, ◌+◌, ◌*◌, ◌≤◌, ◌<◌, length, get_or, set}
use Rattle.model.specs.Limits.{most_columns, most_lines}
use Rattle.model.specs.Value.{unused_term}
use Rattle.model.specs.declared.Term.{Term}
use Rattle.model.specs.declared.Line.{Line}

-- a table, and two numbers for each column
abbrev pub row_long : ℕ
row_long = 1 + most_columns * 2

-- a row for each line of a query
abbrev pub query_rows_long : ℕ
query_rows_long = most_lines * row_long

-- where the mark of a term stands; its number stands behind it
abbrev pub mark_place : ℕ → ℕ → ℕ
mark_place k p = k * row_long + 1 + p * 2

-- the term in a column
unfoldable pub term_at : Line → ℕ → Term
unfolding unused_term
term_at a p = get_or a.terms p unused_term

-- row k is there
abbrev pub HasRow : List ℕ → ℕ → Type 0
HasRow rows k = k * row_long + row_long ≤ length rows

-- the table of a row
abbrev pub laid_table : List ℕ → ℕ → ℕ
laid_table rows k = get_or rows (k * row_long) 0

-- the term in a column of a row
unfoldable pub laid_term : List ℕ → ℕ → ℕ → Term
laid_term rows k p = record { mark = get_or rows (mark_place k p) 0; number = get_or rows (mark_place k p + 1) 0 }

-- row k has the table and the terms of a line
pub record LaidAt (rows : List ℕ) (k : ℕ) (a : Line) : Type 0 where
  pub table : laid_table rows k ≡ a.table
  pub term : (p : ℕ) → p < most_columns → laid_term rows k p ≡ term_at a p

-- the rows with another mark in a column of row k
abbrev pub set_mark : List ℕ → ℕ → ℕ → ℕ → List ℕ
set_mark rows k p mark = set rows (mark_place k p) mark

-- a line laid into row k; the other rows stay
pub record LaidInto (a : Line) (k : ℕ) (rows rows' : List ℕ) : Type 0 where
  pub long : length rows' ≡ length rows
  pub before : (i : ℕ) → i < k * row_long → get_or rows' i 0 ≡ get_or rows i 0
  pub after : (i : ℕ) → k * row_long + row_long ≤ i → get_or rows' i 0 ≡ get_or rows i 0
  pub row : LaidAt rows' k a
