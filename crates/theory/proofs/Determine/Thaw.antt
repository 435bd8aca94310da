-- From values back to terms: a frozen value to its term and the mark of a column to A's term there, so frozen and marked rows to lines.
use mathlib.Core.Path.{◌≡◌, refl, sym, ap, ◌∙◌, subst}
use mathlib.Core.Logic.{◌⊎◌, inl, inr, ⊎_elim}
use mathlib.Core.List.Memᴰ
use mathlib.Core.List.{List, [], ◌∷◌, ◌++◌, map}
use Prim.Native.Nat.{ℕ, ◌+◌, ◌≤◌, ◌<◌}
use native.Mathlib.Decide.{ℕ_discrete}
use native.Mathlib.Omega.{arith}
use lib.ListN.{length}
use Rattle.words.specs.TestBits.{up_from}
use Rattle.words.proofs.TestBits.{made_at, at_made}
use Rattle.theory.specs.Query.{Term, constant, shown, hidden, over, Line, Query, ◌∈◌}
use Rattle.theory.specs.Archive.{Row, value, row}
use Rattle.theory.specs.Reduce.{image}
use Rattle.theory.specs.Cover.{at}
use Rattle.theory.proofs.Lists.{place, at_place}
use Rattle.theory.proofs.Find.{Functional, find, found}
use Rattle.theory.proofs.Tuples.{tuple_path, over_over, over_same, over_self, map_places}
use Rattle.theory.proofs.Determine.Freeze.{In, Frozen, frozen, freeze}
use Rattle.theory.proofs.Determine.Marked.{first_of, first_column, mark_of, IsMarked, view_width, in_view, matched_cell}
use Rattle.theory.proofs.Determine.Marked.{term_in, equals_match}

module _ {vs : List Line} {R : Query} {w : ℕ} (F : Frozen vs R w) where
  -- ---- the terms of the query

  with_value : Term → ℕ × Term
  with_value t = (frozen F t, t)

  terms : Query → List (ℕ × Term)
  terms [] = []
  terms (B ∷ l) = map with_value B.columns ++ terms l

  terms_of : (l : Query) (t : Term) → In l t → ◌∈◌ {X = ℕ × Term} (frozen F t, t) (terms l)
  unfolding terms with_value
  terms_of [] t (C, c, m) = absurd (Memᴰ.not-nil c)
  terms_of (B ∷ l) t (C, c, m) =
      ⊎_elim (λ e. Memᴰ.append_left (terms l) (Memᴰ.map with_value (subst (λ (D : Line). t ∈ D.columns) e m)))
      (λ n. Memᴰ.append_right (map with_value B.columns) (terms_of l t (C, n, m))) (Memᴰ.cases_cons c)

  of_terms : (l : Query) (z : ℕ × Term) → z ∈ terms l → In l z.1 × (z.0 ≡ frozen F z.1)
  unfolding terms with_value
  of_terms [] z m = absurd (Memᴰ.not-nil m)
  of_terms (B ∷ l) z m =
      ⊎_elim
      (λ k.
      let (t, t-in, is) = Memᴰ.of_map with_value B.columns k in
      let e : t ≡ z.1 = ap (λ (y : ℕ × Term). y.1) is in
      let f : frozen F t ≡ z.0 = ap (λ (y : ℕ × Term). y.0) is in
      ((B, Memᴰ.head refl, Memᴰ.cast (sym e) t-in), sym f ∙ ap (frozen F) e))
      (λ k. let ((C, c, i), e) = of_terms l z k in ((C, Memᴰ.tail c, i), e))
      (Memᴰ.append_cases (map with_value B.columns) m)

  module _ (A : Line) (short : length A.columns ≤ w) where
    -- ---- the marks of A's columns

    with_mark : ℕ → ℕ × Term
    with_mark p = (F.mark p, at A p)

    marks : List (ℕ × Term)
    marks = map with_mark (up_from 0 (length A.columns))

    marks_of : (p : ℕ) → p < length A.columns → ◌∈◌ {X = ℕ × Term} (F.mark p, at A p) marks
    unfolding marks with_mark
    marks_of p l =
        let e : p ≡ 0 + p = omega arith in
        Memᴰ.cast (ap with_mark e) (at_place marks p (at_made with_mark 0 (length A.columns) p l))

    of_marks : (z : ℕ × Term) → z ∈ marks → (p : ℕ) × (p < length A.columns) × (z.0 ≡ F.mark p) × (z.1 ≡ at A p)
    unfolding marks with_mark
    of_marks z m =
        let (k, z_at) = place m in
        let (l, e) = made_at with_mark 0 (length A.columns) k z z_at in
        (0 + k, omega (arith, l), ap (λ (y : ℕ × Term). y.0) e, ap (λ (y : ℕ × Term). y.1) e)

    -- ---- back

    pairs : List (ℕ × Term)
    pairs = marks ++ terms R

    functional : Functional pairs
    unfolding pairs
    functional y z m n e = go (Memᴰ.append_cases marks m) (Memᴰ.append_cases marks n)
      where
        go : (y ∈ marks) ⊎ (y ∈ terms R) → (z ∈ marks) ⊎ (z ∈ terms R) → y.1 ≡ z.1
        go (inl a) (inl b) =
            let (p, i, f, g) = of_marks y a in
            let (q, j, k, l) = of_marks z b in
            g ∙ ap (at A) (F.marks p q (omega (arith, i, short)) (omega (arith, j, short)) (sym f ∙ e ∙ k)) ∙ sym l
        go (inl a) (inr b) =
            let (p, i, f, g) = of_marks y a in
            let (j, k) = of_terms R z b in absurd (F.far z.1 p j (omega (arith, i, short)) (sym k ∙ sym e ∙ f))
        go (inr a) (inl b) =
            let (p, i, f, g) = of_marks z b in
            let (j, k) = of_terms R y a in absurd (F.far y.1 p j (omega (arith, i, short)) (sym k ∙ e ∙ f))
        go (inr a) (inr b) =
            let (i, f) = of_terms R y a in
            let (j, g) = of_terms R z b in F.one y.1 z.1 i j (sym f ∙ e ∙ g)

    pub thaw : ℕ → Term
    thaw x = find ℕ_discrete (constant 0) x pairs

    pub thaw_frozen : (t : Term) → In R t → thaw (frozen F t) ≡ t
    unfolding thaw pairs
    thaw_frozen t i =
        found ℕ_discrete (constant 0) pairs functional (frozen F t, t) (Memᴰ.append_right marks (terms_of R t i))

    thaw_mark : (p : ℕ) → p < length A.columns → thaw (F.mark p) ≡ at A p
    unfolding thaw pairs
    thaw_mark p l = found ℕ_discrete (constant 0) pairs functional (F.mark p, at A p) (Memᴰ.append_left (terms R) (marks_of p l))

    pub thaw_freeze : (C : Line) → C ∈ R → over thaw (freeze F C) ≡ C
    thaw_freeze C m = over_over thaw (frozen F) C ∙ over_self (λ t. thaw (frozen F t)) C (λ t k. thaw_frozen t (C, m, k))

    -- a line under the frozen values of its shown variables and any values of its hidden ones, thawed: its image, by the hidden ones
    image_thawed : (h : ℕ → ℕ) (t : Term) → In R t → image (λ n. thaw (h n)) t ≡ thaw (value F.s h t)
    image_thawed h (constant c) i = sym (thaw_frozen (constant c) i)
    image_thawed h (shown n) i = sym (thaw_frozen (shown n) i)
    image_thawed h (hidden n) i = refl

    pub thaw_row : (h : ℕ → ℕ) (B : Line) → B ∈ R → over (image (λ n. thaw (h n))) B ≡ over thaw (row F.s h B)
    thaw_row h B m =
        over_same (image (λ n. thaw (h n))) (λ t. thaw (value F.s h t)) B (λ t k. image_thawed h t (B, m, k))
        ∙ sym (over_over thaw (value F.s h) B)

    module _ (in_R : A ∈ R) {r : Row} (k : IsMarked F A r) where
      thawed_cell : (p : ℕ) → p < length k.v.columns → thaw (value k.s (mark_of F k.v) (at k.v p)) ≡ at A p
      thawed_cell p l = by_kind (at k.v p) refl
        where
          known : (t : Term) → at k.v p ≡ t → thaw (value k.s k.h t) ≡ at A p
          known t e =
              ap thaw (sym (ap (value k.s k.h) e) ∙ matched_cell F A k p l) ∙ thaw_frozen (at A p) (term_in F A k in_R p l)

          by_kind : (t : Term) → at k.v p ≡ t → thaw (value k.s (mark_of F k.v) t) ≡ at A p
          by_kind (constant c) e = known (constant c) e
          by_kind (shown n) e = known (shown n) e
          by_kind (hidden n) e =
              let (b, f) = first_column k.v.columns (hidden n) (Memᴰ.cast (sym e) (in_view F A k p l)) in
              let q = first_of k.v.columns (hidden n) in
              thaw_mark q (subst (λ (x : ℕ). q < x) (view_width F A k) b) ∙ equals_match F A k in_R q p b l (f ∙ sym e)

      pub thaw_marked : over thaw r ≡ A
      thaw_marked =
          ap (over thaw) k.same ∙ over_over thaw (value k.s (mark_of F k.v)) k.v
          ∙ tuple_path (ap (λ (b : Row). b.table) k.matched)
          (map_places (λ t. thaw (value k.s (mark_of F k.v) t)) k.v.columns A.columns (constant 0) (constant 0)
          (view_width F A k) thawed_cell)
