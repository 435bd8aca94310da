-- The cells of a row, place by place.
use mathlib.Core.Path.{◌≡◌, refl, sym, ◌∙◌}
use mathlib.Core.List.{List}
use Prim.Native.Nat.{ℕ, zero, suc, ◌+◌, ◌≤◌, ◌<◌}
use native.Mathlib.Numerals.{one-add}
use native.Mathlib.Omega.{arith}
use lib.ListN.{length, get_or, length-map, get_or-eq_default}
use lib.Seq.{ext_get_or}
use Rattle.theory.specs.Query.{Line}
use Rattle.theory.specs.Archive.{Row, row}
use Rattle.theory.proofs.Match.{cell}
use Rattle.model.specs.Limits.{most_columns}
use Rattle.model.proofs.Pad.{pad_length, pad_get}
use Rattle.freezing.specs.Cells.{row_cells, cells_of}

-- past its columns a row has nothing
pub no_cell : (r : Row) (p : ℕ) → length r.columns ≤ p → cell r p ≡ 0
no_cell r p h = get_or-eq_default r.columns 0 h

pub no_value : (s h : ℕ → ℕ) (A : Line) (p : ℕ) → length A.columns ≤ p → cell (row s h A) p ≡ 0
no_value s h A p l = no_cell (row s h A) p (simp length-map l)

-- ---- nine numbers

pub cells_long : (r : Row) → length r.columns ≤ most_columns → length (cells_of r) ≡ row_cells
unfolding cells_of
cells_long r few = omega (arith, pad_length most_columns 0 r.columns few)

pub table_at : (r : Row) → get_or (cells_of r) 0 0 ≡ r.table
unfolding cells_of
table_at r = refl

-- the value in a column, and 0 past the columns
pub cell_at : (r : Row) (p : ℕ) → get_or (cells_of r) (1 + p) 0 ≡ cell r p
unfolding cells_of
cell_at r p = rw one-add (pad_get most_columns 0 r.columns p)

-- nine numbers are a row's cells where the first is the table and each other the value in its column
pub cells_are : (cells : List ℕ) (r : Row) → length r.columns ≤ most_columns → length cells ≡ row_cells → get_or cells 0 0 ≡ r.table
    → ((p : ℕ) → p < most_columns → get_or cells (1 + p) 0 ≡ cell r p) → cells ≡ cells_of r
cells_are cells r few long table columns = ext_get_or 0 cells (cells_of r) (long ∙ sym (cells_long r few)) at
  where
    at : (i : ℕ) → i < length cells → get_or cells i 0 ≡ get_or (cells_of r) i 0
    at zero b = table ∙ sym (table_at r)
    at (suc p) b = let e = columns p (omega (arith, long, b)) ∙ sym (cell_at r p) in rw one-add at e
