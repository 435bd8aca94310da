-- The columns of a view and a line, looked at pair by pair.
use mathlib.Core.Path.{◌≡◌, refl, sym, ap, ◌∙◌, subst}
use mathlib.Core.Logic.{◌⊎◌, inl, inr, ⊎_elim}
use mathlib.Core.Bool.{Bool, true, false, cond, not, ◌||◌}
use mathlib.Core.List.{List, map}
use Prim.Native.Nat.{ℕ, ◌^◌, ◌≤◌, ◌<◌}
use native.Mathlib.Decide.{ℕ_discrete}
use native.Mathlib.Omega.{arith}
use borrow.Author.Tests.{eq-eqb}
use lib.Dec.{T}
use lib.ListN.{length, get_or}
use Rattle.theory.specs.Query.{constant, shown, hidden}
use Rattle.theory.specs.Query.{Term as TheTerm, Line as TheLine}
use Rattle.theory.specs.Cover.{at}
use Rattle.theory.specs.Executable.Test.{all_below, kind, same}
use Rattle.theory.specs.Executable.Cover.{obeys, covers}
use Rattle.theory.proofs.Executable.Test.{all_below_iff, same_iff}
use Rattle.theory.proofs.Tuples.{get_d_map}
use Rattle.words.specs.Bits.{bit}
use Rattle.words.specs.Sets.{set_bit, Least, LeastDropped}
use Rattle.model.specs.Limits.{most_columns}
use Rattle.model.specs.Value.{unused_term, term_value, line_value}
use Rattle.model.specs.Rows.{LaidAt, term_at, laid_term}
use Rattle.model.specs.declared.Term.{Term}
use Rattle.model.proofs.Pad.{pad_get}
use Rattle.model.proofs.Terms.{terms_few}
use Rattle.words.proofs.Answers.{true_holds, holds_true, fails_false}
use Rattle.words.proofs.Bits.{bit_zero, bit_cases}
use Rattle.words.proofs.SetBits.{set_bit_iff}
use Rattle.words.proofs.Lowest.{dropped_other}
use Rattle.covering.specs.Free.{FreeAt, FreeColumns}

-- row k holds a line of n columns
pub record Wide (n : ℕ) (rows : List ℕ) (k : ℕ) (view : TheLine) : Type 0 where
  pub is : LaidAt rows k (line_value view)
  pub width : length view.columns ≡ n

module _ {n : ℕ} {rows : List ℕ} {k : ℕ} {view : TheLine} where
  pub wide : LaidAt rows k (line_value view) → length view.columns ≡ n → Wide n rows k view
  wide e w = record { is = e; width = w }

  pub column : n ≤ 8 → Wide n rows k view → (p : ℕ) → p < n → laid_term rows k p ≡ term_value (at view p)
  unfolding term_at line_value
  column few w p h =
      let columns = view.columns in
      w.is.term p (omega arith)
      ∙ ap (λ l. get_or l p unused_term) (terms_few columns (omega (arith, w.width)))
      ∙ pad_get 8 unused_term (map term_value columns) p
      ∙ get_d_map term_value columns p (constant 0) unused_term (omega (arith, w.width))

abbrev pub rule : TheLine → TheLine → ℕ → ℕ → Bool
rule view line p q = obeys (at view p) (at view q) (at line p) (at line q)

-- the rules hold at columns p and q of whatever lines are the view and the line
abbrev pub Obeyed : (TheLine → Type 0) → (TheLine → Type 0) → ℕ → ℕ → Type 0
Obeyed IsView IsLine p q = (view line : TheLine) → IsView view → IsLine line → rule view line p q ≡ true

-- the rules hold with every column at the columns of `bound` that are no longer in `rest`
pub record Passed (width bound : ℕ) (IsView IsLine : TheLine → Type 0) (rest : ℕ) : Type 0 where
  pub below : rest < 2 ^ width
  pub rows : (i : ℕ) → bit bound i ≡ 1 → bit rest i ≡ 0 → (j : ℕ) → j < width → Obeyed IsView IsLine i j

-- they hold at p with the columns before q
abbrev pub PassedRow : (TheLine → Type 0) → (TheLine → Type 0) → ℕ → ℕ → Type 0
PassedRow IsView IsLine p q = (j : ℕ) → j < q → Obeyed IsView IsLine p j

module _ {width bound : ℕ} {IsView IsLine : TheLine → Type 0} where
  pub passed_none : bound < 2 ^ width → Passed width bound IsView IsLine bound
  passed_none h = record { below = h; rows = λ i b z. absurd (omega (arith, b, z)) }

  pub passed_row : {rest p next : ℕ} → Passed width bound IsView IsLine rest → Least 64 rest p → LeastDropped 64 rest next
      → PassedRow IsView IsLine p width → Passed width bound IsView IsLine next
  passed_row {rest} {p} {next} r l d row = record {
    below = omega (arith, d.less, r.below);
    rows = λ i b z. go i b z (ℕ_discrete i p);
  }
    where
      go : (i : ℕ) → bit bound i ≡ 1 → bit next i ≡ 0 → Dec (i ≡ p) → (j : ℕ) → j < width → Obeyed IsView IsLine i j
      go i b z (yes e) = subst (λ (x : ℕ). (j : ℕ) → j < width → Obeyed IsView IsLine x j) (sym e) row
      go i b z (no f) = r.rows i b (sym (dropped_other i d l f) ∙ z)

-- ---- free columns

module _ {rows : List ℕ} {k : ℕ} where
  pub free_none : FreeColumns rows k 0
  free_none p e = absurd (omega (arith, e, bit_zero p))

  -- a column more, where it is free
  pub free_more : (m p : ℕ) (on : Bool) → FreeColumns rows k m → (on ≡ true → FreeAt rows k p)
      → FreeColumns rows k (cond on (set_bit m p) m)
  free_more m p false f g = f
  free_more m p true f g = λ q e. ⊎_elim (λ h. f q h) (λ h. subst (FreeAt rows k) h (g refl)) ((set_bit_iff m p q).0 e)

-- a term with the mark of a shown variable, and a line's terms at the columns p and q, which are not the same unless p is q
shown_obeys : (t u x y : TheTerm) → (term_value t).mark ≡ 2 → (t ≡ u → x ≡ y) → obeys t u x y ≡ true
unfolding term_value kind obeys
shown_obeys (constant c) u x y m f = absurd (omega arith)
shown_obeys (shown n) u x y m f = go (same (shown n) u) refl
  where
    go : (b : Bool) → same (shown n) u ≡ b → (not b || same x y) ≡ true
    go false e = refl
    go true e = sym (holds_true (same x y) ((same_iff x y).1 (f ((same_iff (shown n) u).0 (true_holds e)))))
shown_obeys (hidden n) u x y m f = absurd (omega arith)

module _ {width : ℕ} {views : List ℕ} {v : ℕ} {lines : List ℕ} {a : ℕ} (view line : TheLine) (sv : Wide width views v view)
    (sa : Wide width lines a line) where
  rows : Bool
  rows = all_below width (λ p. all_below width (rule view line p))

  covers_rows : view.table ≡ line.table → rows ≡ covers view line
  unfolding rows covers
  covers_rows t =
      let wide : length view.columns ≡ length line.columns = sv.width ∙ sym sa.width in
      rw (eq-eqb view.table line.table t, eq-eqb (length view.columns) (length line.columns) wide, sv.width)

  -- at a free column no rule breaks
  free_obeys : width ≤ most_columns → (p q : ℕ) → p < width → q < width → FreeAt views v p → rule view line p q ≡ true
  free_obeys few p q hp hq f =
      let x = column few sv p hp in
      shown_obeys (at view p) (at view q) (at line p) (at line q) (ap (λ (t : Term). t.mark) (sym x) ∙ f.shows)
      (λ e. ap (at line) (sym (f.alone q (omega arith) (x ∙ ap term_value e ∙ sym (column few sv q hq)))))

  pub passed_done : {bound rest : ℕ} → Passed width bound (Wide width views v) (Wide width lines a) rest → rest ≡ 0
      → width ≤ most_columns → ((p : ℕ) → p < width → bit bound p ≡ 0 → FreeAt views v p)
      → view.table ≡ line.table → true ≡ covers view line
  unfolding rows
  passed_done {bound} {rest} r z few free t =
      holds_true rows
      ((all_below_iff _ width).1 (λ i k. (all_below_iff (rule view line i) width).1 (λ j l. true_holds (go i k j l (bit_cases bound i)))))
      ∙ covers_rows t
    where
      go : (i : ℕ) → i < width → (j : ℕ) → j < width → (bit bound i ≡ 0) ⊎ (bit bound i ≡ 1) → rule view line i j ≡ true
      go i k j l (inl e) = free_obeys few i j k l (free i k e)
      go i k j l (inr e) = r.rows i e (rw z (bit_zero i)) j l view line sv sa

  pub broken : (p q : ℕ) → p < width → q < width → rule view line p q ≡ false → view.table ≡ line.table
      → false ≡ covers view line
  unfolding rows
  broken p q hp hq e t =
      fails_false rows
      (λ h.
      subst T e ((all_below_iff (rule view line p) width).0 ((all_below_iff (λ i. all_below width (rule view line i)) width).0 h p hp) q hq))
      ∙ covers_rows t
