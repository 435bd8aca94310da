-- The marked rows of a row: for each view that matches it, the row with marks in its cells under the view's hidden variables.
use mathlib.Core.Path.{◌≡◌, refl, sym, ap, ◌∙◌, subst}
use mathlib.Core.Logic.{◌⊎◌, inl, inr, ⊎_elim, ite}
use mathlib.Core.List.Memᴰ
use mathlib.Core.List.{List, [], ◌∷◌}
use Prim.Native.Nat.{ℕ, zero, suc, ◌<◌, zero-le, suc-le-suc}
use native.Mathlib.Nat.{not-suc-le-zero, le_of_suc-le-suc}
use lib.ListN.{length, get_or, length-map}
use Rattle.theory.specs.Query.{Term, constant, shown, hidden, Line, Query, ◌∈◌}
use Rattle.theory.specs.Archive.{Row, Archive, value, row}
use Rattle.theory.specs.Cover.{at}
use Rattle.theory.proofs.Terms.{term_discrete}
use Rattle.theory.proofs.Tuples.{over_same, same_map, get_d_mem}
use Rattle.theory.proofs.Match.{Matches, match_decided, cell, row_cell}
use Rattle.theory.proofs.Determine.Freeze.{In, Frozen, frozen, freeze}

-- ---- the first column of a term

pub first_of : List Term → Term → ℕ
first_of [] t = zero
first_of (u ∷ l) t = ite (term_discrete u t) zero (suc (first_of l t))

pub first_column : (l : List Term) (t : Term) → t ∈ l → (first_of l t < length l) × (get_or l (first_of l t) (constant 0) ≡ t)
unfolding first_of
first_column [] t m = absurd (Memᴰ.not-nil m)
first_column (u ∷ l) t m = go (term_discrete u t) (λ k. first_column l t k)
  where
    go : (d : Dec (u ≡ t)) → (t ∈ l → (first_of l t < length l) × (get_or l (first_of l t) (constant 0) ≡ t))
        → (ite d zero (suc (first_of l t)) < suc (length l)) × (get_or (u ∷ l) (ite d zero (suc (first_of l t))) (constant 0) ≡ t)
    go (yes e) rest = (suc-le-suc zero-le, e)
    go (no n) rest =
        let r = rest (⊎_elim (λ e. absurd (n (sym e))) (λ k. k) (Memᴰ.cases_cons m)) in (suc-le-suc r.0, r.1)

pub first_one : (l : List Term) (t u : Term) → t ∈ l → u ∈ l → first_of l t ≡ first_of l u → t ≡ u
first_one l t u m k e =
    sym (first_column l t m).1 ∙ ap (λ (p : ℕ). get_or l p (constant 0)) e ∙ (first_column l u k).1

-- a column that has the term, and before which none has it, is the first
pub first_least : (l : List Term) (t : Term) (q : ℕ) → q < length l → get_or l q (constant 0) ≡ t
    → ((j : ℕ) → j < q → get_or l j (constant 0) ≡ t → ⊥) → first_of l t ≡ q
unfolding first_of
first_least [] t q h e none = absurd (not-suc-le-zero h)
first_least (u ∷ l) t q h e none = go (term_discrete u t) q h e none (λ p. first_least l t p)
  where
    go : (d : Dec (u ≡ t)) (p : ℕ) → p < suc (length l) → get_or (u ∷ l) p (constant 0) ≡ t
        → ((j : ℕ) → j < p → get_or (u ∷ l) j (constant 0) ≡ t → ⊥)
        → ((k : ℕ) → k < length l → get_or l k (constant 0) ≡ t → ((j : ℕ) → j < k → get_or l j (constant 0) ≡ t → ⊥) → first_of l t ≡ k)
        → ite d zero (suc (first_of l t)) ≡ p
    go (yes x) zero k f g rest = refl
    go (yes x) (suc p) k f g rest = absurd (g zero (suc-le-suc zero-le) x)
    go (no n) zero k f g rest = absurd (n f)
    go (no n) (suc p) k f g rest = ap suc (rest p (le_of_suc-le-suc k) f (λ j b. g (suc j) (suc-le-suc b)))

-- ---- marked rows

-- r is the odd row with, where a view that matches it has a hidden variable, the mark of the view and the variable
pub record Marked (mark : Line → ℕ → ℕ) (vs : List Line) (odd r : Row) : Type 0 where
  pub v : Line
  pub v_in : v ∈ vs
  pub s : ℕ → ℕ
  pub h : ℕ → ℕ
  pub matched : row s h v ≡ odd
  pub same : r ≡ row s (mark v) v

-- the marked rows, and nothing else
pub record ExtraBy (mark : Line → ℕ → ℕ) (vs : List Line) (odd : Row) (extra : Archive) : Type 0 where
  pub each : (v : Line) (s h : ℕ → ℕ) → v ∈ vs → row s h v ≡ odd → row s (mark v) v ∈ extra
  pub only : (r : Row) → r ∈ extra → Marked mark vs odd r

-- ---- one row for each view that matches

module _ (mark : Line → ℕ → ℕ) (odd : Row) where
  add : (v : Line) → Dec (Matches v odd) → Archive → Archive
  add v (yes k) l = row k.s (mark v) v ∷ l
  add v (no n) l = l

  marked_rows : List Line → Archive
  marked_rows [] = []
  marked_rows (v ∷ vs) = add v (match_decided v odd) (marked_rows vs)

  mark_same : (s h t k : ℕ → ℕ) (v : Line) → row s h v ≡ row t k v → row s (mark v) v ≡ row t (mark v) v
  mark_same s h t k v e =
      over_same (value s (mark v)) (value t (mark v)) v
      (λ x m. by_kind x (same_map (value s h) (value t k) v.columns (ap (λ (b : Row). b.columns) e) x m))
    where
      by_kind : (x : Term) → value s h x ≡ value t k x → value s (mark v) x ≡ value t (mark v) x
      by_kind (constant c) q = refl
      by_kind (shown n) q = q
      by_kind (hidden n) q = refl

  add_of : (v : Line) (d : Dec (Matches v odd)) (l : Archive) (s h : ℕ → ℕ) → row s h v ≡ odd → row s (mark v) v ∈ add v d l
  unfolding add
  add_of v (yes k) l s h e = Memᴰ.head (mark_same s h k.s k.h v (e ∙ sym k.same))
  add_of v (no n) l s h e = absurd (n (record { s = s; h = h; same = e }))

  add_rest : (v : Line) (d : Dec (Matches v odd)) (l : Archive) {r : Row} → r ∈ l → r ∈ add v d l
  unfolding add
  add_rest v (yes k) l m = Memᴰ.tail m
  add_rest v (no n) l m = m

  of_add : (v : Line) (d : Dec (Matches v odd)) (l : Archive) (r : Row) → r ∈ add v d l → Marked mark (v ∷ []) odd r ⊎ (r ∈ l)
  unfolding add
  of_add v (yes k) l r m =
      ⊎_elim
      (λ e. inl (record { v = v; v_in = Memᴰ.head refl; s = k.s; h = k.h; matched = k.same; same = e }))
      (λ t. inr t) (Memᴰ.cases_cons m)
  of_add v (no n) l r m = inr m

  marked_of : (vs : List Line) (v : Line) (s h : ℕ → ℕ) → v ∈ vs → row s h v ≡ odd → row s (mark v) v ∈ marked_rows vs
  unfolding marked_rows
  marked_of [] v s h m e = absurd (Memᴰ.not-nil m)
  marked_of (u ∷ vs) v s h m e =
      ⊎_elim
      (λ q. subst (λ (x : Line). row s (mark x) x ∈ add u (match_decided u odd) (marked_rows vs)) (sym q)
      (add_of u (match_decided u odd) (marked_rows vs) s h (ap (row s h) (sym q) ∙ e)))
      (λ t. add_rest u (match_decided u odd) (marked_rows vs) (marked_of vs v s h t e)) (Memᴰ.cases_cons m)

  widen : {us vs : List Line} {r : Row} → ((v : Line) → v ∈ us → v ∈ vs) → Marked mark us odd r → Marked mark vs odd r
  widen f k = record { v = k.v; v_in = f k.v k.v_in; s = k.s; h = k.h; matched = k.matched; same = k.same }

  of_marked : (vs : List Line) (r : Row) → r ∈ marked_rows vs → Marked mark vs odd r
  unfolding marked_rows
  of_marked [] r m = absurd (Memᴰ.not-nil m)
  of_marked (u ∷ vs) r m =
      ⊎_elim (λ k. widen (λ v n. Memᴰ.head (Memᴰ.eq_of_singleton n)) k)
      (λ t. widen (λ v n. Memᴰ.tail n) (of_marked vs r t)) (of_add u (match_decided u odd) (marked_rows vs) r m)

  pub extra_rows : (vs : List Line) → (extra : Archive) × ExtraBy mark vs odd extra
  extra_rows vs = (marked_rows vs, record { each = marked_of vs; only = of_marked vs })

-- ---- the marked rows of a frozen line

module _ {vs : List Line} {R : Query} {w : ℕ} (F : Frozen vs R w) where
  -- the mark of a view's hidden variable is that of its first column
  abbrev pub mark_of : Line → ℕ → ℕ
  mark_of v m = F.mark (first_of v.columns (hidden m))

module _ {vs : List Line} {R : Query} {w : ℕ} (F : Frozen vs R w) (A : Line) where
  abbrev pub IsMarked : Row → Type 0
  IsMarked r = Marked (mark_of F) vs (freeze F A) r

  abbrev pub Extra : Archive → Type 0
  Extra extra = ExtraBy (mark_of F) vs (freeze F A) extra

  module _ {r : Row} (k : IsMarked r) where
    pub table : r.table ≡ A.table
    table = ap (λ (b : Row). b.table) k.same ∙ ap (λ (b : Row). b.table) k.matched

    -- the row, the view and A are equally wide
    pub width : length r.columns ≡ length k.v.columns
    width = ap (λ (b : Row). length b.columns) k.same ∙ length-map k.v.columns (value k.s (mark_of F k.v))

    pub view_width : length k.v.columns ≡ length A.columns
    view_width =
        sym (length-map k.v.columns (value k.s k.h)) ∙ ap (λ (b : Row). length b.columns) k.matched
        ∙ length-map A.columns (frozen F)

    module _ (p : ℕ) (l : p < length k.v.columns) where
      pub in_view : at k.v p ∈ k.v.columns
      in_view = get_d_mem k.v.columns p (constant 0) l

      pub marked_cell : cell r p ≡ value k.s (mark_of F k.v) (at k.v p)
      marked_cell = ap (λ (b : Row). cell b p) k.same ∙ row_cell k.s (mark_of F k.v) k.v p l

      pub matched_cell : value k.s k.h (at k.v p) ≡ frozen F (at A p)
      matched_cell =
          sym (row_cell k.s k.h k.v p l) ∙ ap (λ (b : Row). cell b p) k.matched
          ∙ row_cell F.s F.h A p (subst (λ (n : ℕ). p < n) view_width l)

    module _ (in_R : A ∈ R) where
      pub term_in : (p : ℕ) → p < length k.v.columns → In R (at A p)
      term_in p l = (A, in_R, get_d_mem A.columns p (constant 0) (subst (λ (n : ℕ). p < n) view_width l))

      -- rules 1 and 2 hold of the view and A
      pub constants_match : (p c : ℕ) → p < length k.v.columns → at k.v p ≡ constant c → at A p ≡ constant c
      constants_match p c l e =
          F.clear (at A p) c (term_in p l) (k.v, k.v_in, Memᴰ.cast (sym e) (in_view p l))
          (sym (matched_cell p l) ∙ ap (value k.s k.h) e)

      pub equals_match : (p q : ℕ) → p < length k.v.columns → q < length k.v.columns → at k.v p ≡ at k.v q → at A p ≡ at A q
      equals_match p q l m e =
          F.one (at A p) (at A q) (term_in p l) (term_in q m) (sym (matched_cell p l) ∙ ap (value k.s k.h) e ∙ matched_cell q m)
