-- What is known of the first query text of an input where the pass over it gives one.
use Rattle.std.specs.Prelude.{◌≡◌, List, ℕ, ◌+◌, ◌<◌, T, length, get_or, take, Option, IfSome}
use Rattle.theory.specs.Query.{Query, ◌∈◌}
use Rattle.model.specs.Limits.{most_tables, most_columns, up_to}
use Rattle.model.specs.Value.{query_value}
use Rattle.query_text.specs.Text.{read, accepted}
use Rattle.cutting.specs.NextCut.{NextCut}
use Rattle.entering.specs.Laid.{Laid}
use Rattle.scan.specs.declared.Piece.{Piece}

-- the lent numbers have the columns of each table, of a table's number, and 0 where there is no such table
pub record Widths (lent widths : List ℕ) : Type 0 where
  pub long : most_tables < length lent
  pub narrow : (w : ℕ) → w ∈ widths → T (up_to most_columns w)
  pub width : (t : ℕ) → t < most_tables → get_or lent (1 + t) 0 ≡ get_or widths t 0

abbrev pub SomeWidths : List ℕ → Type 0
SomeWidths lent = (widths : List ℕ) × Widths lent widths

-- the piece holds the query that the input's first query text reads to, and ends behind that text; the rows hold its lines
pub record Scanned (widths input : List ℕ) (p : Piece) (rows : List ℕ) : Type 0 where
  pub query : Query
  pub value : p.query ≡ query_value query
  pub reads : read widths (take p.end input) ≡ accepted query
  pub cuts : NextCut input p.end
  pub laid : Laid query rows

-- none says nothing: the input is then read line by line
abbrev pub ScannedUnder : List ℕ → List ℕ → Option Piece → List ℕ → Type 0
ScannedUnder lent input r rows = IfSome r (λ p. (widths : List ℕ) → Widths lent widths → Scanned widths input p rows)
