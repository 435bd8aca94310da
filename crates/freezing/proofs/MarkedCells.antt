-- A view's row with marks in its hidden columns, cell by cell.
use mathlib.Core.Path.{◌≡◌, refl, sym, ap, subst, ◌∙◌}
use mathlib.Core.Logic.{⊎_elim}
use mathlib.Core.List.{List}
use Prim.Native.Nat.{ℕ, ◌+◌, ◌≤◌, ◌<◌}
use native.Mathlib.Omega.{arith}
use borrow.Author.Count.{below_more}
use lib.ListN.{length, get_or, set, length-set, length-map}
use lib.Seq.{get_or-set_same, get_or-set_other}
use Rattle.theory.specs.Query.{Term, constant, shown, hidden, Line}
use Rattle.theory.specs.Archive.{Row, value, row}
use Rattle.theory.specs.Cover.{at}
use Rattle.theory.proofs.Match.{cell, row_cell}
use Rattle.theory.proofs.Determine.Marked.{first_of, first_least}
use Rattle.theory.proofs.Determine.Block.{mark_by}
use Rattle.model.specs.Limits.{most_columns}
use Rattle.model.specs.Value.{term_value}
use Rattle.model.specs.Rows.{laid_term}
use Rattle.model.specs.declared.Term.{Term as TermValue}
use Rattle.model.proofs.Values.{value_same}
use Rattle.freezing.specs.Rows.{FirstAlike, Beside, CellMarked, MarkedGiven}
use Rattle.freezing.proofs.RowCells.{no_value, cells_are}
use Rattle.freezing.proofs.TermMarks.{unused_mark, constant_mark, shown_mark, hidden_mark}
use Rattle.freezing.proofs.ViewBeside.{view_used, view_column, beside_long, beside_table, cell_is, nothing_there}

-- ---- the cells, column by column

-- the new value in column p is the old one, or the mark of the first column like it
pub record MarkedAt (base : ℕ) (views : List ℕ) (k p old new : ℕ) : Type 0 where
  pub first : ℕ
  pub alike : FirstAlike views k p first
  pub cell : CellMarked base (laid_term views k p) first old new

-- the cells before that of column p are marked
pub record MarkedTo (base : ℕ) (views : List ℕ) (k : ℕ) (cells : List ℕ) (p : ℕ) (marked : List ℕ) : Type 0 where
  pub long : length marked ≡ length cells
  pub table : get_or marked 0 0 ≡ get_or cells 0 0
  pub columns : (q : ℕ) → q < p → MarkedAt base views k q (get_or cells (1 + q) 0) (get_or marked (1 + q) 0)

module _ {base : ℕ} {views : List ℕ} {k : ℕ} {cells : List ℕ} where
  pub marked_more : {p q x : ℕ} {t : TermValue} {marked : List ℕ} → MarkedTo base views k cells p marked → 1 + p < length cells
      → t ≡ laid_term views k p → FirstAlike views k p q → CellMarked base t q (get_or cells (1 + p) 0) x
      → MarkedTo base views k cells (p + 1) (set marked (1 + p) x)
  marked_more {p} {q} {x} {marked = marked} m b e a new =
      let here : MarkedAt base views k p (get_or cells (1 + p) 0) x =
      record { first = q; alike = a; cell = subst (λ (u : TermValue). CellMarked base u q (get_or cells (1 + p) 0) x) e new } in
      record {
        long = length-set marked (1 + p) x ∙ m.long;
        table = get_or-set_other marked (1 + p) 0 x 0 (λ z. omega arith) ∙ m.table;
        columns =
            below_more (λ j. MarkedAt base views k j (get_or cells (1 + j) 0) (get_or (set marked (1 + p) x) (1 + j) 0)) p
            (λ j l. subst (MarkedAt base views k j (get_or cells (1 + j) 0))
            (sym (get_or-set_other marked (1 + p) (1 + j) x 0 (λ z. omega arith))) (m.columns j l))
            (subst (MarkedAt base views k p (get_or cells (1 + p) 0))
            (sym (get_or-set_same marked (1 + p) x 0 (omega (arith, b, m.long)))) here);
      }

-- ---- all columns

module _ {views : List ℕ} {k : ℕ} {cells : List ℕ} (v : Line) (r : Row) (beside : Beside views k v cells r) where
  -- the first column of a hidden variable is the one that the code finds
  first_is : (p q m : ℕ) → p < length v.columns → at v p ≡ hidden m → FirstAlike views k p q → first_of v.columns (hidden m) ≡ q
  first_is p q m l e a =
      let there = view_used v r beside in
      let here = there p l ∙ ap term_value e in
      let inside : q < length v.columns = omega (arith, a.upto, l) in
      first_least v.columns (hidden m) q inside
      (value_same (at v q) (hidden m) (sym (there q inside) ∙ a.same ∙ here))
      (λ j b z. a.least j b (there j (omega (arith, b, inside)) ∙ ap term_value z ∙ sym here))

  module _ {base : ℕ} (s h : ℕ → ℕ) (matched : row s h v ≡ r) (q x : ℕ) (c : MarkedAt base views k q (get_or cells (1 + q) 0) x) where
    -- a cell that stays, where the view has no hidden variable
    stayed : {t : TermValue} {n : ℕ} → laid_term views k q ≡ t → t.mark ≡ n → (n ≡ 3 → ⊥) → x ≡ cell r q
    stayed e f g = c.cell.stays (λ z. g (sym f ∙ sym (ap (λ (u : TermValue). u.mark) e) ∙ z)) ∙ cell_is v r beside q

    by_kind : (t : Term) → q < length v.columns → at v q ≡ t → laid_term views k q ≡ term_value t → cell r q ≡ value s h t
        → x ≡ value s (mark_by base v) t
    by_kind (constant n) l e is old = stayed is (constant_mark n) (λ z. omega arith) ∙ old
    by_kind (shown n) l e is old = stayed is (shown_mark n) (λ z. omega arith) ∙ old
    by_kind (hidden m) l e is old =
        let new = c.cell.hides (ap (λ (u : TermValue). u.mark) is ∙ hidden_mark m) in
        omega (arith, new, first_is q c.first m l e c.alike)

    marked_cell : q < most_columns → x ≡ cell (row s (mark_by base v) v) q
    marked_cell b =
        ⊎_elim
        (λ w. by_kind (at v q) w.0 refl w.1 (sym (ap (λ (y : Row). cell y q) matched) ∙ row_cell s h v q w.0)
        ∙ sym (row_cell s (mark_by base v) v q w.0))
        (λ w. stayed w.1 unused_mark (λ z. omega arith) ∙ nothing_there v r beside q w.0
        ∙ sym (no_value s (mark_by base v) v q w.0))
        (view_column v r beside q b)

pub marked_all : {base : ℕ} {views : List ℕ} {k p : ℕ} {cells marked : List ℕ} → MarkedTo base views k cells p marked → most_columns ≤ p
    → MarkedGiven base views k cells marked
marked_all {base} {marked = marked} m past v r beside s h matched =
    cells_are marked (row s (mark_by base v) v) (simp length-map beside.columns)
    (m.long ∙ beside_long v r beside) (m.table ∙ beside_table v r beside ∙ sym beside.table)
    (λ q b. marked_cell v r beside s h matched q _ (m.columns q (omega arith)) b)
