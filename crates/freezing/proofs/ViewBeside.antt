-- A view beside a row: its terms in the columns, and the values in the cells.
use mathlib.Core.Path.{◌≡◌, ap, ◌∙◌}
use mathlib.Core.List.{List}
use Prim.Native.Nat.{ℕ, ◌+◌, ◌≤◌, ◌<◌}
use native.Mathlib.Omega.{arith}
use lib.ListN.{length, get_or}
use Rattle.theory.specs.Query.{Line}
use Rattle.theory.specs.Archive.{Row}
use Rattle.theory.specs.Cover.{at}
use Rattle.theory.proofs.Match.{cell}
use Rattle.model.specs.Limits.{most_columns}
use Rattle.model.specs.Value.{term_value}
use Rattle.model.specs.Rows.{laid_term}
use Rattle.freezing.specs.Cells.{row_cells}
use Rattle.freezing.specs.Rows.{Beside}
use Rattle.freezing.proofs.RowCells.{no_cell, cells_long, table_at, cell_at}
use Rattle.freezing.proofs.LineColumns.{LineColumn, laid_used, laid_column}

module _ {views : List ℕ} {k : ℕ} {cells : List ℕ} (v : Line) (r : Row) (beside : Beside views k v cells r) where
  pub view_used : (p : ℕ) → p < length v.columns → laid_term views k p ≡ term_value (at v p)
  view_used = laid_used v beside.view beside.columns

  pub view_column : (p : ℕ) → p < most_columns → LineColumn views k v p
  view_column = laid_column v beside.view beside.columns

  pub beside_long : length cells ≡ row_cells
  beside_long = ap length beside.are ∙ cells_long r (omega (arith, beside.columns, beside.width))

  pub beside_table : get_or cells 0 0 ≡ r.table
  beside_table = ap (λ (l : List ℕ). get_or l 0 0) beside.are ∙ table_at r

  pub cell_is : (p : ℕ) → get_or cells (1 + p) 0 ≡ cell r p
  cell_is p = ap (λ (l : List ℕ). get_or l (1 + p) 0) beside.are ∙ cell_at r p

  -- past the view's columns the row has nothing either
  pub nothing_there : (p : ℕ) → length v.columns ≤ p → cell r p ≡ 0
  nothing_there p h = no_cell r p (omega (arith, h, beside.width))
