-- Rows from the numbers that hold them: one, those behind it, and what is written of all.
use mathlib.Core.Path.{◌≡◌, refl, sym, ap, ◌∙◌, subst}
use mathlib.Core.List.Memᴰ
use mathlib.Core.List.{List, [], ◌∷◌, ◌++◌, append_assoc, append-nil}
use Prim.Native.Nat.{ℕ, ◌+◌, ◌-◌, ◌*◌, ◌/◌, ◌≤◌, ◌<◌}
use native.Mathlib.Numerals.{add-one}
use native.Mathlib.Omega.{arith}
use lib.ListN.{length, take, drop, get_or, length-take, length-drop, length-append}
use lib.Seq.{take_at, drop_at}
use Rattle.theory.specs.Archive.{Row}
use Rattle.text.specs.Lines.{newline}
use Rattle.text.specs.Names.{bytes}
use Rattle.text.specs.Print.{decimal}
use Rattle.text.proofs.Parts.{to_end}
use Rattle.model.specs.Limits.{most_tables, most_columns}
use Rattle.model.specs.Value.{tables_value}
use Rattle.model.specs.declared.Tables.{Tables}
use Rattle.model.proofs.Limits.{up_to_iff}
use Rattle.model.proofs.Pad.{pad_get, pad_take}
use Rattle.model.proofs.Values.{width_is}
use Rattle.policy_text.specs.WellFormed.{GoodWidth}
use Rattle.freezing.specs.Cells.{row_cells, cells_of, all_cells}
use Rattle.freezing.proofs.RowCells.{cells_long, table_at}
use Rattle.writing.specs.Wrote.{Wrote}
use Rattle.writing.proofs.Wrote.{wrote_as, wrote_none, wrote_more}
use Rattle.page.specs.Numbers.{spaced_numbers}
use Rattle.page.proofs.Refused.{cons_append}
use Rattle.mode_apart.specs.ApartPage.{row_line, row_lines, apart_lines}
use Rattle.mode_apart.specs.Rows.{IsRow, AreRows, SomeRow, RowPut}

-- ---- one row

module _ {t : Tables} {cells : List ℕ} {x : Row} (h : IsRow t cells x) where
  pub row_narrow : length x.columns ≤ most_columns
  row_narrow = ((up_to_iff most_columns _).0 (width_is GoodWidth h.widths h.tables.good.each x h.fits)).1

  pub row_long : length cells ≡ row_cells
  row_long = ap length h.are ∙ cells_long x row_narrow

  row_table : get_or cells 0 0 ≡ x.table
  row_table = ap (λ (l : List ℕ). get_or l 0 0) h.are ∙ table_at x

  pub row_known : (1 ≤ get_or cells 0 0) × (get_or cells 0 0 ≤ most_tables)
  row_known = (omega (arith, row_table, h.fits.first), omega (arith, row_table, h.fits.last, h.tables.good.few))

  -- the columns of its table are as many as it has
  pub row_width : (w : ℕ) → w ≡ get_or t.columns (get_or cells 0 0 - 1) 0 → w ≡ length x.columns
  unfolding tables_value
  row_width w e =
      e ∙ ap (λ (n : ℕ). get_or t.columns (n - 1) 0) row_table
      ∙ ap (λ (u : Tables). get_or u.columns (x.table - 1) 0) h.tables.value
      ∙ pad_get most_tables 0 h.widths (x.table - 1)
      ∙ sym h.fits.width

  -- the numbers that are its own
  row_own : (w : ℕ) → w ≡ length x.columns → take (w + 1) cells ≡ x.table ∷ x.columns
  unfolding cells_of
  row_own w e = rw (h.are, add-one w, e) (ap (λ (l : List ℕ). x.table ∷ l) (pad_take most_columns 0 x.columns))

  pub wrote_row : (said : List ℕ) (w : ℕ) {o₀ o₁ o₂ o₃ : List ℕ} {at a b r : ℕ} → w ≡ length x.columns → Wrote o₀ at said o₁ a
      → Wrote o₁ a (spaced_numbers (take (w + 1) cells)) o₂ b → Wrote o₂ b (newline ∷ []) o₃ r → Wrote o₀ at (row_line said x) o₃ r
  unfolding row_line
  wrote_row said w e u v z =
      wrote_as (ap (λ (l : List ℕ). said ++ spaced_numbers l ++ newline ∷ []) (row_own w e)) (wrote_more (wrote_more u v) z)

-- ---- rows one behind the other

module _ {t : Tables} {cells : List ℕ} {x : Row} {xs : List Row} (h : AreRows t cells (x ∷ xs)) where
  first : IsRow t (cells_of x) x
  first = record { widths = h.widths; tables = h.tables; fits = h.fit x (Memᴰ.head refl); are = refl }

  pub rows_first : IsRow t (take row_cells cells) x
  unfolding all_cells
  rows_first = rw (h.are, take_at (cells_of x) (all_cells xs) row_cells (row_long first)) first

  pub rows_behind : AreRows t (drop row_cells cells) xs
  unfolding all_cells
  rows_behind = record {
    widths = h.widths;
    tables = h.tables;
    fit = λ y m. h.fit y (Memᴰ.tail m);
    are = ap (drop row_cells) h.are ∙ drop_at (cells_of x) (all_cells xs) row_cells (row_long first);
  }

  -- as the code slices them
  pub rows_rest : AreRows t (take (length cells - row_cells) (drop row_cells cells)) xs
  rows_rest = subst (λ (l : List ℕ). AreRows t l xs) (sym (to_end row_cells cells)) rows_behind

  pub rows_some : row_cells ≤ length cells
  rows_some = omega (arith, row_long rows_first, length-take row_cells cells)

pub rows_long : {t : Tables} {cells : List ℕ} (xs : List Row) → AreRows t cells xs → length cells ≡ length xs * row_cells
unfolding all_cells
rows_long [] h = ap length h.are
rows_long {cells = cells} (x ∷ xs) h = omega (arith, rows_long xs (rows_behind h), rows_some h, length-drop row_cells cells)

-- ---- the loop

-- some rows are written, and the cells that are left are those of the others
pub record Reached (t : Tables) (left : List ℕ) (xs : List Row) (was : List ℕ) (start : ℕ) (out : List ℕ) (to : ℕ) : Type 0 where
  pub done : List Row
  pub rest : List Row
  pub all : done ++ rest ≡ xs
  pub ahead : AreRows t left rest
  pub wrote : Wrote was start (row_lines done) out to

pub reached_none : {t : Tables} {cells : List ℕ} {xs : List Row} (was : List ℕ) (start : ℕ) → AreRows t cells xs
    → Reached t cells xs was start was start
unfolding row_lines
reached_none {xs = xs} was start h = record { done = []; rest = xs; all = refl; ahead = h; wrote = wrote_none was start }

lines_last : (xs : List Row) (x : Row) → row_lines xs ++ row_line (bytes "row") x ≡ row_lines (xs ++ x ∷ [])
unfolding row_lines
lines_last [] x = sym (append-nil (row_line (bytes "row") x))
lines_last (y ∷ xs) x =
    append_assoc (row_line (bytes "row") y) (row_lines xs) (row_line (bytes "row") x)
    ∙ ap (λ (l : List ℕ). row_line (bytes "row") y ++ l) (lines_last xs x)

module _ {t : Tables} {left : List ℕ} {xs : List Row} {was : List ℕ} {start : ℕ} {out : List ℕ} {to : ℕ}
    (r : Reached t left xs was start out to) where
  pub reached_all : length left < row_cells → Wrote was start (row_lines xs) out to
  reached_all h = go r.rest r.all r.ahead
    where
      go : (rest : List Row) → r.done ++ rest ≡ xs → AreRows t left rest → Wrote was start (row_lines xs) out to
      go [] e a = wrote_as (ap row_lines (sym (append-nil r.done) ∙ e)) r.wrote
      go (x ∷ rest) e a = absurd (omega (arith, rows_some a))

  -- the next nine cells, and those behind them
  module _ (row behind : List ℕ) (parts : left ≡ row ++ behind) (long : length row ≡ row_cells) where
    row_first : take row_cells left ≡ row
    row_first = rw parts (take_at row behind row_cells long)

    row_behind : drop row_cells left ≡ behind
    row_behind = rw parts (drop_at row behind row_cells long)

    some : length left ≡ 0 → ⊥
    some e = omega (arith, ap length parts, length-append row behind)

    pub reached_row : SomeRow t row
    reached_row = go r.rest r.ahead
      where
        go : (rest : List Row) → AreRows t left rest → SomeRow t row
        go [] a = absurd (some (rows_long [] a))
        go (x ∷ rest) a = (x, rw row_first at (rows_first a))

    pub reached_more : {next : List ℕ} {k : ℕ} → RowPut (bytes "row") t row out to next k → Reached t behind xs was start next k
    reached_more {next} {k} w = go r.rest r.all r.ahead
      where
        go : (rest : List Row) → r.done ++ rest ≡ xs → AreRows t left rest → Reached t behind xs was start next k
        go [] e a = absurd (some (rows_long [] a))
        go (x ∷ rest) e a = record {
          done = r.done ++ x ∷ [];
          rest = rest;
          all = append_assoc r.done (x ∷ []) rest ∙ e;
          ahead = rw row_behind at (rows_behind a);
          wrote = wrote_as (lines_last r.done x) (wrote_more r.wrote (w x (rw row_first at (rows_first a))));
        }

-- ---- the page of two archives

apart_pieces : (said n x xs : List ℕ) → ((said ++ (n ++ newline ∷ [])) ++ x) ++ xs ≡ said ++ n ++ newline ∷ x ++ xs
apart_pieces said n x xs = simp (append_assoc, cons_append)

pub wrote_apart : {t : Tables} {cells : List ℕ} (odd : Row) (others : List Row) {o₀ o₁ o₂ o₃ o₄ : List ℕ} {at a b c r : ℕ}
    → AreRows t cells (odd ∷ others) → Wrote o₀ at (bytes "apart ") o₁ a
    → Wrote o₁ a (decimal (length cells / row_cells) ++ newline ∷ []) o₂ b → Wrote o₂ b (row_line (bytes "odd") odd) o₃ c
    → Wrote o₃ c (row_lines others) o₄ r → Wrote o₀ at (apart_lines odd others) o₄ r
unfolding apart_lines
wrote_apart {cells = cells} odd others h u v w z =
    let count : length cells / row_cells ≡ length (odd ∷ others) = omega (arith, rows_long (odd ∷ others) h) in
    wrote_as
    (apart_pieces (bytes "apart ") (decimal (length cells / row_cells)) (row_line (bytes "odd") odd) (row_lines others)
    ∙ ap (λ (n : ℕ). bytes "apart " ++ decimal n ++ newline ∷ row_line (bytes "odd") odd ++ row_lines others) count)
    (wrote_more (wrote_more (wrote_more u v) w) z)
