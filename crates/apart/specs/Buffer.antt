-- Rows in a buffer, one behind the other.
use Rattle.std.specs.Prelude.{◌≡◌, Bool, true, List, ◌++◌, ℕ, ◌+◌, ◌*◌, ◌≤◌, ◌<◌, length, take, drop}
use Rattle.theory.specs.Query.{◌∈◌}
use Rattle.theory.specs.Archive.{Row}
use Rattle.model.specs.Limits.{most_columns}
use Rattle.freezing.specs.Cells.{row_cells, all_cells}
use Rattle.label_lists.specs.Buffer.{headed}
use Rattle.apart.specs.Archives.{most_cells}

-- room for every row
pub record Wide (out : List ℕ) : Type 0 where
  pub room : most_cells ≤ length out

-- the cells of the row at place k are there
abbrev pub HasCells : List ℕ → ℕ → Type 0
HasCells out k = k * row_cells + row_cells ≤ length out

-- the row at place k
abbrev pub cells_at : List ℕ → ℕ → List ℕ
cells_at out k = take row_cells (drop (k * row_cells) out)

-- a row written at place k, and nothing else
abbrev pub PutAt : ℕ → List ℕ → List ℕ → List ℕ → Type 0
PutAt k cells before after = after ≡ take (k * row_cells) before ++ cells ++ drop (k * row_cells + row_cells) before

-- whether the row at place k is this one
pub record SameAt (out : List ℕ) (k : ℕ) (cells : List ℕ) (r : Bool) : Type 0 where
  pub same : r ≡ true → cells_at out k ≡ cells
  pub said : cells_at out k ≡ cells → r ≡ true

-- whether it stands at one of the places
pub record StandsBetween (out : List ℕ) (from to : ℕ) (cells : List ℕ) (r : Bool) : Type 0 where
  pub stands : r ≡ true → (k : ℕ) × (from ≤ k) × (k < to) × (cells_at out k ≡ cells)
  pub said : (k : ℕ) → from ≤ k → k < to → cells_at out k ≡ cells → r ≡ true

-- the row has no more columns than there are cells for
abbrev pub Narrow : Row → Type 0
Narrow x = length x.columns ≤ most_columns

-- a buffer with room for all rows, and these rows written at its head; it was `start` before
pub record Holds (start : List ℕ) (rows : List Row) (out : List ℕ) : Type 0 where
  pub wide : most_cells ≤ length start
  pub narrow : (x : Row) → x ∈ rows → Narrow x
  pub are : out ≡ headed (all_cells rows) start
