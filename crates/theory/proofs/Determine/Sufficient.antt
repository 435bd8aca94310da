-- If each line of R is covered by a view on which two archives agree, R has the same answers on both.
--
-- A row of the first archive that a line of R became is an answer of the line's view, so the second archive has a row with
-- the same values wherever the view has no hidden variable. These rows together are a valuation of R: a shared variable
-- keeps its value, and any other takes it from the one line that it stands in.
use mathlib.Core.Path.{◌≡◌, refl, sym, ap, ◌∙◌, subst}
use mathlib.Core.Logic.{◌≢◌, ⊎_elim}
use mathlib.Core.Option.{some, some-injective}
use mathlib.Core.List.Memᴰ
use mathlib.Core.List.{List, [], ◌∷◌, ◌++◌, map, zip}
use Prim.Native.Nat.{ℕ, zero, suc, ◌<◌}
use native.Mathlib.Decide.{ℕ_discrete}
use lib.ListN.{length, get_elem?, length-map}
use Rattle.theory.specs.Query.{Term, constant, shown, hidden, Line, Query, ◌∈◌}
use Rattle.theory.specs.Archive.{Row, Archive, value, row, Answer, Determines}
use Rattle.theory.specs.Cover.{at, IsHidden}
use Rattle.theory.proofs.Lists.{at_place, none≢some}
use Rattle.theory.proofs.Find.{Functional, find, found}
use Rattle.theory.proofs.Terms.{term_discrete, hidden_decided}
use Rattle.theory.proofs.Tuples.{tuple_path, get_d_mem, place_zip, map_zip}
use Rattle.theory.proofs.Match.{cell, row_cell, answer_of, of_answer, Matches, matches}
use Rattle.theory.proofs.Determine.Inside.{Unshared, CoversIn}

-- ---- one line

-- b may stand for the row of A: the same values but at unshared variables, and equal values for equal terms
pub record Kept (R : Query) (s h : ℕ → ℕ) (A : Line) (b : Row) : Type 0 where
  pub table : A.table ≡ b.table
  pub width : length A.columns ≡ length b.columns
  pub keeps : (p : ℕ) → p < length A.columns → (Unshared R (at A p) → ⊥) → cell b p ≡ value s h (at A p)
  pub equals : (p q : ℕ) → p < length A.columns → q < length A.columns → at A p ≡ at A q → cell b p ≡ cell b q

-- the hidden valuation plays no part at a term that is not hidden
value_open : (s h k : ℕ → ℕ) (t : Term) → (IsHidden t → ⊥) → value s h t ≡ value s k t
value_open s h k (constant c) n = refl
value_open s h k (shown m) n = refl
value_open s h k (hidden m) n = absurd (n tt)

module _ (R : Query) (s h : ℕ → ℕ) (v A : Line) (c : CoversIn R v A) where
  in_view : (p : ℕ) → p < length A.columns → p < length v.columns
  in_view p l = subst (λ (n : ℕ). p < n) (sym c.width) l

  in_line : (p : ℕ) → p < length v.columns → p < length A.columns
  in_line p l = subst (λ (n : ℕ). p < n) c.width l

  -- the view matches the row of its line
  view_matches : Matches v (row s h A)
  view_matches =
      matches v (row s h A)
      (record {
        table = c.table;
        width = c.width ∙ sym (length-map A.columns (value s h));
        constants = λ p n l e.
            row_cell s h A p (in_line p l) ∙ ap (value s h) ((c.rules p p l l).constants n e);
        equals = λ p q l m e.
            row_cell s h A p (in_line p l) ∙ ap (value s h) ((c.rules p q l m).equals e) ∙ sym (row_cell s h A q (in_line q m));
      })

  -- a row with the same answer of the view may stand for it
  module _ (t k k' : ℕ → ℕ) (same : row t k v ≡ row s h A) where
    kept_open : (p : ℕ) → p < length A.columns → (IsHidden (at v p) → ⊥) → cell (row t k' v) p ≡ value s h (at A p)
    kept_open p l n =
        row_cell t k' v p (in_view p l) ∙ value_open t k' k (at v p) n ∙ sym (row_cell t k v p (in_view p l))
        ∙ ap (λ (b : Row). cell b p) same ∙ row_cell s h A p l

    kept_equal : (p q : ℕ) → p < length A.columns → q < length A.columns → at A p ≡ at A q
        → cell (row t k' v) p ≡ cell (row t k' v) q
    kept_equal p q l m e = go (hidden_decided (at v p)) (hidden_decided (at v q))
      where
        with_view : at v p ≡ at v q → cell (row t k' v) p ≡ cell (row t k' v) q
        with_view f = row_cell t k' v p (in_view p l) ∙ ap (value t k') f ∙ sym (row_cell t k' v q (in_view q m))

        go : Dec (IsHidden (at v p)) → Dec (IsHidden (at v q)) → cell (row t k' v) p ≡ cell (row t k' v) q
        go (yes x) d = with_view ((c.rules p q (in_view p l) (in_view q m)).only x e)
        go (no x) (yes y) = with_view (sym ((c.rules q p (in_view q m) (in_view p l)).only y (sym e)))
        go (no x) (no y) = kept_open p l x ∙ ap (value s h) e ∙ sym (kept_open q m y)

    kept : Kept R s h A (row t k' v)
    kept =
        record {
          table = sym c.table;
          width = sym c.width ∙ sym (length-map v.columns (value t k'));
          keeps = λ p l u. kept_open p l (λ x. u ((c.rules p p (in_view p l) (in_view p l)).hides x));
          equals = kept_equal;
        }

-- ---- all lines together

-- a choice for each element, as a list of pairs
chosen : {X Y : Type 0} (P : X → Y → Type 0) (l : List X) → ((x : X) → x ∈ l → (y : Y) × P x y)
    → (ps : List (X × Y)) × (map (λ (z : X × Y). z.0) ps ≡ l) × ((z : X × Y) → z ∈ ps → P z.0 z.1)
chosen P [] f = ([], refl, λ z m. absurd (Memᴰ.not-nil m))
chosen {X} {Y} P (x ∷ l) f =
    let c = f x (Memᴰ.head refl) in
    let r = chosen P l (λ y m. f y (Memᴰ.tail m)) in (
      (x, c.0) ∷ r.0,
      ap (λ (t : List X). x ∷ t) r.1,
      λ z m. ⊎_elim (λ e. subst (λ (w : X × Y). P w.0 w.1) (sym e) c.1) (λ t. r.2 z t) (Memᴰ.cases_cons m),
    )

-- the terms and values that stand over one another
cells : List (Line × Row) → List (Term × ℕ)
cells [] = []
cells (z ∷ ps) = zip z.0.columns z.1.columns ++ cells ps

cells_of : (ps : List (Line × Row)) (z : Line × Row) (y : Term × ℕ) → z ∈ ps → y ∈ zip z.0.columns z.1.columns → y ∈ cells ps
unfolding cells
cells_of [] z y m n = absurd (Memᴰ.not-nil m)
cells_of (x ∷ ps) z y m n =
    ⊎_elim (λ e. Memᴰ.append_left (cells ps) (subst (λ (w : Line × Row). y ∈ zip w.0.columns w.1.columns) e n))
    (λ t. Memᴰ.append_right (zip x.0.columns x.1.columns) (cells_of ps z y t n)) (Memᴰ.cases_cons m)

-- the pair that a cell is from, and its place
pub record From (ps : List (Line × Row)) (y : Term × ℕ) : Type 0 where
  pub i : ℕ
  pub z : Line × Row
  pub z_at : get_elem? ps i ≡ some z
  pub in_z : y ∈ zip z.0.columns z.1.columns

of_cells : (ps : List (Line × Row)) (y : Term × ℕ) → y ∈ cells ps → From ps y
unfolding cells
of_cells [] y m = absurd (Memᴰ.not-nil m)
of_cells (x ∷ ps) y m =
    ⊎_elim (λ n. record { i = zero; z = x; z_at = refl; in_z = n })
    (λ n. let r = of_cells ps y n in record { i = suc r.i; z = r.z; z_at = r.z_at; in_z = r.in_z })
    (Memᴰ.append_cases (zip x.0.columns x.1.columns) m)

first_at : (ps : List (Line × Row)) (i : ℕ) (z : Line × Row) → get_elem? ps i ≡ some z
    → get_elem? (map (λ (w : Line × Row). w.0) ps) i ≡ some z.0
first_at [] i z e = absurd (none≢some e)
first_at (x ∷ ps) zero z e = ap some (ap (λ (w : Line × Row). w.0) (some-injective x z e))
first_at (x ∷ ps) (suc i) z e = first_at ps i z e

module _ (R : Query) (s h : ℕ → ℕ) (ps : List (Line × Row)) (firsts : map (λ (z : Line × Row). z.0) ps ≡ R)
    (keep : (z : Line × Row) → z ∈ ps → Kept R s h z.0 z.1) where
  -- a cell whose term is not an unshared variable has the old value
  cell_kept : (y : Term × ℕ) (f : From ps y) → (Unshared R y.0 → ⊥) → y.1 ≡ value s h y.0
  cell_kept y f u =
      let k = keep f.z (at_place ps f.i f.z_at) in
      let p = place_zip f.z.0.columns f.z.1.columns (constant 0) 0 y f.in_z in
      p.4 ∙ k.keeps p.0 p.1 (λ x. u (subst (Unshared R) (sym p.3) x)) ∙ ap (value s h) (sym p.3)

  in_first : (y : Term × ℕ) (f : From ps y) → y.0 ∈ f.z.0.columns
  in_first y f =
      let p = place_zip f.z.0.columns f.z.1.columns (constant 0) 0 y f.in_z in
      Memᴰ.cast p.3 (get_d_mem f.z.0.columns p.0 (constant 0) p.1)

  line_at : (y : Term × ℕ) (f : From ps y) → get_elem? R f.i ≡ some f.z.0
  line_at y f = subst (λ (l : Query). get_elem? l f.i ≡ some f.z.0) firsts (first_at ps f.i f.z f.z_at)

  -- a term of the lines at two places is no unshared variable
  apart : (t : Term) (y z : Term × ℕ) (f : From ps y) (g : From ps z) → f.i ≢ g.i → t ≡ y.0 → t ≡ z.0 → Unshared R t → ⊥
  apart (constant c) y z f g n d e u = u
  apart (shown k) y z f g n d e u = u
  apart (hidden k) y z f g n d e u =
      u
      (record {
        i = f.i;
        j = g.i;
        apart = n;
        A = f.z.0;
        B = g.z.0;
        A_at = line_at y f;
        B_at = line_at z g;
        in_A = Memᴰ.cast d (in_first y f);
        in_B = Memᴰ.cast e (in_first z g);
      })

  functional : Functional (cells ps)
  functional y z m n e = go (of_cells ps y m) (of_cells ps z n)
    where
      together : (f : From ps y) (w : Line × Row) → w ≡ f.z → z ∈ zip w.0.columns w.1.columns → y.1 ≡ z.1
      together f w q k =
          let p = place_zip f.z.0.columns f.z.1.columns (constant 0) 0 y f.in_z in
          let r = place_zip f.z.0.columns f.z.1.columns (constant 0) 0 z
          (subst (λ (x : Line × Row). z ∈ zip x.0.columns x.1.columns) q k) in
          p.4
          ∙ (keep f.z (at_place ps f.i f.z_at)).equals p.0 r.0 p.1 r.1 (sym p.3 ∙ e ∙ r.3)
          ∙ sym r.4

      by_place : (f : From ps y) (g : From ps z) → Dec (f.i ≡ g.i) → y.1 ≡ z.1
      by_place f g (yes q) =
          together f g.z
          (some-injective g.z f.z (sym g.z_at ∙ ap (get_elem? ps) (sym q) ∙ f.z_at)) g.in_z
      by_place f g (no q) =
          cell_kept y f (λ u. apart y.0 y z f g q refl e u) ∙ ap (value s h) e
          ∙ sym (cell_kept z g (λ u. apart z.0 y z f g q (sym e) refl u))

      go : From ps y → From ps z → y.1 ≡ z.1
      go f g = by_place f g (ℕ_discrete f.i g.i)

  -- the hidden valuation read off the rows
  valuation : ℕ → ℕ
  valuation n = find term_discrete 0 (hidden n) (cells ps)

  valued : (t : Term) (x : ℕ) → ◌∈◌ {X = Term × ℕ} (t, x) (cells ps) → value s valuation t ≡ x
  unfolding valuation
  valued (constant c) x m = sym (cell_kept (constant c, x) (of_cells ps (constant c, x) m) (λ u. u))
  valued (shown n) x m = sym (cell_kept (shown n, x) (of_cells ps (shown n, x) m) (λ u. u))
  valued (hidden n) x m = found term_discrete 0 (cells ps) functional (hidden n, x) m

  becomes : (z : Line × Row) → z ∈ ps → row s valuation z.0 ≡ z.1
  becomes z m =
      tuple_path (keep z m).table
      (map_zip (value s valuation) z.0.columns z.1.columns (keep z m).width
      (λ y n. valued y.0 y.1 (cells_of ps z y m n)))

-- ---- determinacy

-- a view that covers A and whose answers on D are answers on E
pub record Passes (R : Query) (D E : Archive) (A : Line) : Type 0 where
  pub v : Line
  pub covered : CoversIn R v A
  pub passes : (s : ℕ → ℕ) → Answer (v ∷ []) D s → Answer (v ∷ []) E s

answers_pass : (R : Query) (D E : Archive) → ((A : Line) → A ∈ R → Passes R D E A) → (s : ℕ → ℕ) → Answer R D s → Answer R E s
answers_pass R D E pass s x = (
  valuation R s h ps.0 ps.1 keep,
  λ A m.
      let w = Memᴰ.of_map (λ (z : Line × Row). z.0) ps.0 (subst (λ (l : Query). A ∈ l) (sym ps.1) m) in
      Memᴰ.cast
      (ap (row s (valuation R s h ps.0 ps.1 keep)) (sym w.2) ∙ becomes R s h ps.0 ps.1 keep w.0 w.1)
      (ps.2 w.0 w.1).0,
)
  where
    h : ℕ → ℕ
    h = x.0

    replaced : (A : Line) → A ∈ R → (b : Row) × ((b ∈ E) × Kept R s h A b)
    replaced A m =
        let p = pass A m in
        let k = view_matches R s h p.v A p.covered in
        let e = of_answer (p.passes k.s (answer_of k.h (Memᴰ.cast k.same (x.1 A m)))) in
        (row k.s e.0 p.v, (e.1, kept R s h p.v A p.covered k.s k.h e.0 k.same))

    ps : (l : List (Line × Row)) × (map (λ (z : Line × Row). z.0) l ≡ R)
        × ((z : Line × Row) → z ∈ l → (z.1 ∈ E) × Kept R s h z.0 z.1)
    ps = chosen (λ A b. (b ∈ E) × Kept R s h A b) R replaced

    keep : (z : Line × Row) → z ∈ ps.0 → Kept R s h z.0 z.1
    keep z m = (ps.2 z m).1

pub covered_determines : (widths : List ℕ) (vs : List Line) (R : Query)
    → ((A : Line) → A ∈ R → (v : Line) × (v ∈ vs) × CoversIn R v A) → Determines widths vs R
covered_determines widths vs R cover D E fit_d fit_e agree s = (
  answers_pass R D E
      (λ A m. let c = cover A m in record { v = c.0; covered = c.2; passes = λ t. (agree c.0 c.1 t).0 }) s,
  answers_pass R E D
      (λ A m. let c = cover A m in record { v = c.0; covered = c.2; passes = λ t. (agree c.0 c.1 t).1 }) s,
)
