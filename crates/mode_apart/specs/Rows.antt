-- Rows in the numbers that the desk gives them in, and what is written of them.
use Rattle.std.specs.Prelude.{◌≡◌, List, ◌∷◌, ℕ, ◌+◌, ◌*◌}
use Rattle.theory.specs.Query.{Fits}
use Rattle.theory.specs.Archive.{Row, AllFit}
use Rattle.model.specs.Limits.{most_tables}
use Rattle.model.specs.Value.{tables_value}
use Rattle.model.specs.declared.Tables.{Tables}
use Rattle.policy_text.specs.WellFormed.{OneToMost, GoodWidth}
use Rattle.freezing.specs.Cells.{row_cells, cells_of, all_cells}
use Rattle.writing.specs.Wrote.{most_field_bytes, Wrote}
use Rattle.mode_apart.specs.ApartPage.{row_line, row_lines, apart_lines}

-- ---- sizes

-- what is said of a row: `odd` or `row`
abbrev pub most_word : ℕ
most_word = 3

-- a number with the space before it; the word of a row and its end are fewer bytes than the row has cells
abbrev pub most_cell_bytes : ℕ
most_cell_bytes = most_field_bytes + 1

abbrev pub most_row_line : ℕ
most_row_line = row_cells * most_cell_bytes

-- ---- what the numbers hold

-- the tables of a loaded policy
pub record TablesOf (t : Tables) (widths : List ℕ) : Type 0 where
  pub value : t ≡ tables_value widths
  pub good : OneToMost most_tables GoodWidth widths

-- the nine numbers of a row of these tables
pub record IsRow (t : Tables) (cells : List ℕ) (x : Row) : Type 0 where
  pub widths : List ℕ
  pub tables : TablesOf t widths
  pub fits : Fits widths x
  pub are : cells ≡ cells_of x

-- those of some rows, one behind the other
pub record AreRows (t : Tables) (cells : List ℕ) (xs : List Row) : Type 0 where
  pub widths : List ℕ
  pub tables : TablesOf t widths
  pub fit : AllFit widths xs
  pub are : cells ≡ all_cells xs

abbrev pub SomeRow : Tables → List ℕ → Type 0
SomeRow t cells = (x : Row) × IsRow t cells x

abbrev pub SomeRows : Tables → List ℕ → Type 0
SomeRows t cells = (xs : List Row) × AreRows t cells xs

abbrev pub SomeArchives : Tables → List ℕ → Type 0
SomeArchives t cells = (odd : Row) × (others : List Row) × AreRows t cells (odd ∷ others)

-- ---- what is written, whichever rows the numbers are

abbrev pub RowPut : List ℕ → Tables → List ℕ → List ℕ → ℕ → List ℕ → ℕ → Type 0
RowPut said t cells was at is r = (x : Row) → IsRow t cells x → Wrote was at (row_line said x) is r

abbrev pub RowsPut : Tables → List ℕ → List ℕ → ℕ → List ℕ → ℕ → Type 0
RowsPut t cells was at is r = (xs : List Row) → AreRows t cells xs → Wrote was at (row_lines xs) is r

abbrev pub ArchivesPut : Tables → List ℕ → List ℕ → List ℕ → ℕ → Type 0
ArchivesPut t cells was is r =
    (odd : Row) (others : List Row) → AreRows t cells (odd ∷ others) → Wrote was 0 (apart_lines odd others) is r
