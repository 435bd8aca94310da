-- A line's row by a block of numbers, cell by cell.
use mathlib.Core.Path.{◌≡◌, refl, sym, ap, ◌∙◌}
use mathlib.Core.Logic.{⊎_elim}
use mathlib.Core.List.Memᴰ
use mathlib.Core.List.{List}
use Prim.Native.Nat.{ℕ, ◌+◌, ◌≤◌, ◌<◌}
use native.Mathlib.Omega.{arith}
use borrow.Author.Count.{below_more}
use lib.ListN.{length, get_or, set, length-set, length-map}
use lib.Seq.{get_or-set_same, get_or-set_other}
use Rattle.theory.specs.Query.{Term, constant, shown, hidden, Line, ◌∈◌}
use Rattle.theory.specs.Archive.{value}
use Rattle.theory.specs.Cover.{at}
use Rattle.theory.specs.Executable.Test.{kind, number}
use Rattle.theory.proofs.Tuples.{get_d_mem}
use Rattle.theory.proofs.Match.{cell, row_cell}
use Rattle.theory.proofs.Determine.Block.{frozen_row}
use Rattle.model.specs.Limits.{most_columns, last_variable}
use Rattle.model.specs.Value.{unused_term, term_value, line_value}
use Rattle.model.specs.Rows.{laid_table, laid_term}
use Rattle.freezing.specs.Cells.{row_cells}
use Rattle.freezing.specs.Rows.{frozen_term, SmallTerm, HasLine, LineFrozen}
use Rattle.freezing.proofs.RowCells.{no_value, cells_are}
use Rattle.freezing.proofs.LineColumns.{laid_column}

-- ---- terms

frozen_value : (base : ℕ) (t : Term) → frozen_term base (term_value t) ≡ value (λ n. base + n) (λ n. base + n) t
unfolding frozen_term term_value kind number
frozen_value base (constant c) = refl
frozen_value base (shown n) = refl
frozen_value base (hidden n) = refl

frozen_unused : (base : ℕ) → frozen_term base unused_term ≡ 0
unfolding frozen_term unused_term
frozen_unused base = refl

small_value : (t : Term) → ((n : ℕ) → t ≡ shown n → n ≤ last_variable) → ((n : ℕ) → t ≡ hidden n → n ≤ last_variable)
    → SmallTerm (term_value t)
unfolding term_value kind number
small_value (constant c) s h l = absurd (omega arith)
small_value (shown n) s h l = s n refl
small_value (hidden n) s h l = h n refl

small_unused : SmallTerm unused_term
unfolding unused_term
small_unused l = absurd (omega arith)

-- ---- a line

module _ (lines : List ℕ) (i : ℕ) (A : Line) (has : HasLine lines i A) where
  pub small_term : (p : ℕ) → p < most_columns → SmallTerm (laid_term lines i p)
  small_term p b =
      ⊎_elim
      (λ w. let here : at A p ∈ A.columns = get_d_mem A.columns p (constant 0) w.0 in
      rw w.1 (small_value (at A p) (λ n e. has.small_shown n (Memᴰ.cast (sym e) here))
      (λ n e. has.small_hidden n (Memᴰ.cast (sym e) here))))
      (λ w. rw w.1 small_unused) (laid_column A has.line has.columns p b)

  frozen_cell : (base p : ℕ) → p < most_columns → frozen_term base (laid_term lines i p) ≡ cell (frozen_row base A) p
  frozen_cell base p b =
      let s : ℕ → ℕ = λ n. base + n in
      ⊎_elim (λ w. ap (frozen_term base) w.1 ∙ frozen_value base (at A p) ∙ sym (row_cell s s A p w.0))
      (λ w. ap (frozen_term base) w.1 ∙ frozen_unused base ∙ sym (no_value s s A p w.0))
      (laid_column A has.line has.columns p b)

-- ---- the cells, column by column

-- the first cells are the table and the frozen terms before column p
pub record FrozenTo (base : ℕ) (lines : List ℕ) (i p : ℕ) (cells : List ℕ) : Type 0 where
  pub long : length cells ≡ row_cells
  pub table : get_or cells 0 0 ≡ laid_table lines i
  pub columns : (q : ℕ) → q < p → get_or cells (1 + q) 0 ≡ frozen_term base (laid_term lines i q)

module _ {base : ℕ} {lines : List ℕ} {i : ℕ} where
  pub frozen_more : {p x : ℕ} {cells : List ℕ} → FrozenTo base lines i p cells → p < most_columns → x ≡ frozen_term base (laid_term lines i p)
      → FrozenTo base lines i (p + 1) (set cells (1 + p) x)
  frozen_more {p} {x} {cells} f b e =
      record {
        long = length-set cells (1 + p) x ∙ f.long;
        table = get_or-set_other cells (1 + p) 0 x 0 (λ z. omega arith) ∙ f.table;
        columns =
            below_more (λ q. get_or (set cells (1 + p) x) (1 + q) 0 ≡ frozen_term base (laid_term lines i q)) p
            (λ q l. get_or-set_other cells (1 + p) (1 + q) x 0 (λ z. omega arith) ∙ f.columns q l)
            (get_or-set_same cells (1 + p) x 0 (omega (arith, f.long)) ∙ e);
      }

  pub frozen_all : {p : ℕ} {cells : List ℕ} → FrozenTo base lines i p cells → most_columns ≤ p → LineFrozen base lines i cells
  unfolding line_value
  frozen_all {p} {cells} f h A has =
      cells_are cells (frozen_row base A) (simp length-map has.columns) f.long (f.table ∙ has.line.table)
      (λ q b. f.columns q (omega arith) ∙ frozen_cell lines i A has base q b)
