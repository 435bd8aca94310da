-- Covering is rewriting, the half that the desk needs: a view that covers a line rewrites it, and a view that rewrites a
-- line determines it.
use mathlib.Core.Path.{◌≡◌, refl, sym, ap, ◌∙◌, subst}
use mathlib.Core.Logic.{ite, if_pos, if_neg}
use mathlib.Core.List.Memᴰ
use mathlib.Core.List.{List, [], ◌∷◌, zip}
use Prim.Native.Nat.{ℕ, ◌+◌, ◌<◌}
use native.Mathlib.Omega.{arith}
use lib.ListN.{length, length-map}
use Rattle.theory.specs.Query.{Term, constant, shown, hidden, over, Line, ◌∈◌}
use Rattle.theory.specs.Archive.{Archive, value, Answer, Agree, Determines}
use Rattle.theory.specs.Reduce.{image}
use Rattle.theory.specs.Cover.{at, IsHidden, Covers, choose, Rewrites}
use Rattle.theory.specs.Executable.Test.{number}
use Rattle.theory.proofs.Find.{find, found}
use Rattle.theory.proofs.Tuples.{tuple_path, get_d_map, map_places, zip_place, place_zip, get_d_mem, mem_get_d, over_over, over_same}
use Rattle.theory.proofs.Terms.{term_discrete, hidden_decided, above_terms, number_below}
use Rattle.theory.proofs.Pigeonhole.{member}
use Rattle.theory.proofs.Reduce.{sent_answers}
use Rattle.theory.proofs.Match.{answer_of, of_answer}
use Rattle.theory.proofs.Cover.{equal_terms}

-- ---- from one line to another, column by column

module _ (A B : Line) (same_width_lem : length A.columns ≡ length B.columns) where
  -- the term of B where A has the term
  facing : Term → Term
  facing t = find term_discrete (constant 0) t (zip A.columns B.columns)

  module _ (equal : (p q : ℕ) → p < length A.columns → q < length A.columns → at A p ≡ at A q → at B p ≡ at B q) where
    faces : (p : ℕ) → p < length A.columns → facing (at A p) ≡ at B p
    unfolding facing
    faces p l =
        found term_discrete (constant 0) (zip A.columns B.columns)
        (λ y z i j e.
        let a = place_zip A.columns B.columns (constant 0) (constant 0) y i in
        let b = place_zip A.columns B.columns (constant 0) (constant 0) z j in
        a.4 ∙ equal a.0 b.0 a.1 b.1 (sym a.3 ∙ e ∙ b.3) ∙ sym b.4)
        (at A p, at B p) (zip_place A.columns B.columns p (constant 0) (constant 0) same_width_lem l)

    -- Where equal terms face equal terms, and constants and shown variables themselves, some map sends A to B: the answers
    -- of B are answers of A.
    line_answers : A.table ≡ B.table
        → ((p : ℕ) → p < length A.columns → (IsHidden (at A p) → ⊥) → at B p ≡ at A p)
        → (D : Archive) (s : ℕ → ℕ) → Answer (B ∷ []) D s → Answer (A ∷ []) D s
    line_answers same_table stay =
        sent_answers (λ n. facing (hidden n))
        (λ C i. Memᴰ.head (ap (over (image (λ n. facing (hidden n)))) (Memᴰ.eq_of_singleton i) ∙ sent))
      where
        column : (t : Term) (p : ℕ) → p < length A.columns → at A p ≡ t → image (λ n. facing (hidden n)) t ≡ at B p
        column (constant c) p l e = sym (stay p l (subst IsHidden e) ∙ e)
        column (shown n) p l e = sym (stay p l (subst IsHidden e) ∙ e)
        column (hidden n) p l e = ap facing (sym e) ∙ faces p l

        sent : over (image (λ n. facing (hidden n))) A ≡ B
        sent =
            tuple_path same_table
            (map_places _ A.columns B.columns (constant 0) (constant 0) same_width_lem (λ p l. column (at A p) p l refl))

-- ---- hidden numbers moved clear

move : ℕ → Term → Term
move K (constant c) = constant c
move K (shown n) = shown n
move K (hidden k) = hidden (K + k)

move_back : (K : ℕ) (t u : Term) → move K t ≡ move K u → t ≡ u
unfolding move
move_back K (constant c) (constant d) e = e
move_back K (constant c) (shown n) e = cc
move_back K (constant c) (hidden n) e = cc
move_back K (shown n) (constant d) e = cc
move_back K (shown n) (shown k) e = e
move_back K (shown n) (hidden k) e = cc
move_back K (hidden n) (constant d) e = cc
move_back K (hidden n) (shown k) e = cc
move_back K (hidden n) (hidden k) e = let z : K + n ≡ K + k = cc in ap hidden (omega arith)

-- a hidden variable below K is not moved to
move_clear : (K : ℕ) (t u : Term) → IsHidden u → number u < K → move K t ≡ u → ⊥
unfolding move number
move_clear K t (constant c) i l e = i
move_clear K t (shown n) i l e = i
move_clear K (constant c) (hidden k) i l e = let z : ◌≡◌ {A = ℕ} 0 1 = cc in omega arith
move_clear K (shown n) (hidden k) i l e = let z : ◌≡◌ {A = ℕ} 0 1 = cc in omega arith
move_clear K (hidden j) (hidden k) i l e = let z : K + j ≡ k = cc in omega arith

move_hidden : (K : ℕ) (t : Term) → IsHidden t → IsHidden (move K t)
unfolding move
move_hidden K (constant c) i = i
move_hidden K (shown n) i = i
move_hidden K (hidden k) i = i

-- only hidden variables are moved
move_stays : (K : ℕ) (t : Term) → (IsHidden t → ⊥) → move K t ≡ t
unfolding move
move_stays K (constant c) n = refl
move_stays K (shown c) n = refl
move_stays K (hidden k) n = absurd (n tt)

choose_hidden : (σ : ℕ → Term) (t : Term) → IsHidden t → choose σ t ≡ t
choose_hidden σ (constant c) i = refl
choose_hidden σ (shown n) i = absurd i
choose_hidden σ (hidden n) i = refl

-- ---- a view that covers a line rewrites it

module _ (v A : Line) (c : Covers v A) where
  K : ℕ
  K = above_terms v.columns

  -- the line's term where the view has the shown variable, clear of the view's hidden variables
  chosen : ℕ → Term
  chosen n = move K (facing v A c.width (shown n))

  rewritten : Line
  rewritten = over (choose chosen) v

  equals : (p q : ℕ) → p < length v.columns → q < length v.columns → at v p ≡ at v q → at A p ≡ at A q
  equals p q l k = equal_terms (at v p) (at v q) (at A p) (at A q) (c.rules p q l k) (c.rules q p k l)

  -- What the choice makes of the view: the line's term, moved, where the view does not hide; the view's own where it does.
  opened : (p : ℕ) → p < length v.columns → (IsHidden (at v p) → ⊥) → choose chosen (at v p) ≡ move K (at A p)
  unfolding chosen move
  opened p l n = go (at v p) refl
    where
      go : (t : Term) → at v p ≡ t → choose chosen t ≡ move K (at A p)
      go (constant d) e = ap (move K) (sym ((c.rules p p l l).constants d e))
      go (shown k) e = ap (move K) (ap (facing v A c.width) (sym e) ∙ faces v A c.width equals p l)
      go (hidden k) e = absurd (n (subst IsHidden (sym e) tt))

  closed : (p : ℕ) → IsHidden (at v p) → choose chosen (at v p) ≡ at v p
  closed p = choose_hidden chosen (at v p)

  apart : (p q : ℕ) → p < length v.columns → q < length v.columns → (IsHidden (at v p) → ⊥) → IsHidden (at v q)
      → choose chosen (at v p) ≡ choose chosen (at v q) → ⊥
  unfolding K
  apart p q l k n i e =
      move_clear K (at A p) (at v q) i (number_below v.columns (at v q) (get_d_mem v.columns q (constant 0) k))
      (sym (opened p l n) ∙ e ∙ closed q i)

  clear : (n k : ℕ) → shown n ∈ v.columns → hidden k ∈ v.columns → chosen n ≡ hidden k → ⊥
  clear n k i j e =
      let p = mem_get_d (constant 0) i in
      let q = mem_get_d (constant 0) j in
      apart p.0 q.0 p.1 q.1 (subst IsHidden p.2) (subst IsHidden (sym q.2) tt)
      (ap (choose chosen) p.2 ∙ e ∙ ap (choose chosen) (sym q.2))

  chosen_equal : (p q : ℕ) → p < length v.columns → q < length v.columns → at A p ≡ at A q
      → choose chosen (at v p) ≡ choose chosen (at v q)
  chosen_equal p q l k e = go (hidden_decided (at v p)) (hidden_decided (at v q))
    where
      go : Dec (IsHidden (at v p)) → Dec (IsHidden (at v q)) → choose chosen (at v p) ≡ choose chosen (at v q)
      go (yes i) d = ap (choose chosen) ((c.rules p q l k).only i e)
      go (no i) (yes j) = ap (choose chosen) (sym ((c.rules q p k l).only j (sym e)))
      go (no i) (no j) = opened p l i ∙ ap (move K) e ∙ sym (opened q k j)

  equal_chosen : (p q : ℕ) → p < length v.columns → q < length v.columns
      → choose chosen (at v p) ≡ choose chosen (at v q) → at A p ≡ at A q
  equal_chosen p q l k e = go (hidden_decided (at v p)) (hidden_decided (at v q))
    where
      go : Dec (IsHidden (at v p)) → Dec (IsHidden (at v q)) → at A p ≡ at A q
      go (yes i) (yes j) = equals p q l k (sym (closed p i) ∙ e ∙ closed q j)
      go (yes i) (no j) = absurd (apart q p k l j i (sym e))
      go (no i) (yes j) = absurd (apart p q l k i j e)
      go (no i) (no j) = move_back K (at A p) (at A q) (sym (opened p l i) ∙ e ∙ opened q k j)

  column : (p : ℕ) → p < length v.columns → at rewritten p ≡ choose chosen (at v p)
  unfolding rewritten
  column p l = get_d_map (choose chosen) v.columns p (constant 0) (constant 0) l

  rewritten_width : length rewritten.columns ≡ length v.columns
  unfolding rewritten
  rewritten_width = length-map v.columns (choose chosen)

  line_of_rewritten : (D : Archive) (s : ℕ → ℕ) → Answer (rewritten ∷ []) D s → Answer (A ∷ []) D s
  unfolding rewritten
  line_of_rewritten =
      line_answers A rewritten (sym (rewritten_width ∙ c.width))
      (λ p q l k e. column p (below l) ∙ chosen_equal p q (below l) (below k) e ∙ sym (column q (below k))) (sym c.table)
      (λ p l n. column p (below l) ∙ opened p (below l) (λ i. n ((c.rules p p (below l) (below l)).hides i))
      ∙ move_stays K (at A p) n)
    where
      below : {p : ℕ} → p < length A.columns → p < length v.columns
      below l = omega arith

  rewritten_of_line : (D : Archive) (s : ℕ → ℕ) → Answer (A ∷ []) D s → Answer (rewritten ∷ []) D s
  unfolding rewritten
  rewritten_of_line =
      line_answers rewritten A (rewritten_width ∙ c.width)
      (λ p q l k e. equal_chosen p q (below l) (below k) (sym (column p (below l)) ∙ e ∙ column q (below k))) c.table
      (λ p l n. stay p (below l) n)
    where
      below : {p : ℕ} → p < length rewritten.columns → p < length v.columns
      below l = omega (arith, rewritten_width)

      stay : (p : ℕ) → p < length v.columns → (IsHidden (at rewritten p) → ⊥) → at A p ≡ at rewritten p
      stay p l n =
          let e : at rewritten p ≡ move K (at A p) =
          column p l ∙ opened p l (λ i. n (subst IsHidden (sym (column p l ∙ closed p i)) i))
          in
          sym (e ∙ move_stays K (at A p) (λ i. n (subst IsHidden (sym e) (move_hidden K (at A p) i))))

pub covers_rewrites : (widths : List ℕ) (v A : Line) → Covers v A → Rewrites widths v A
unfolding rewritten
covers_rewrites widths v A c =
    record {
      σ = chosen v A c;
      clear = clear v A c;
      same = λ D fits s. (line_of_rewritten v A c D s, rewritten_of_line v A c D s);
    }

-- ---- a view that rewrites a line determines it

module _ (v : Line) (σ : ℕ → Term)
    (clear : (n k : ℕ) → shown n ∈ v.columns → hidden k ∈ v.columns → σ n ≡ hidden k → ⊥) where
  value_choose : (s h : ℕ → ℕ) (t : Term) → value s h (choose σ t) ≡ value (λ n. value s h (σ n)) h t
  value_choose s h (constant c) = refl
  value_choose s h (shown n) = refl
  value_choose s h (hidden n) = refl

  -- g at the view's hidden variables, h elsewhere
  patch : (g h : ℕ → ℕ) → ℕ → ℕ
  patch g h k = ite (member term_discrete (hidden k) v.columns) (g k) (h k)

  -- what is chosen for a shown variable keeps its value
  patch_clear : (s g h : ℕ → ℕ) (n : ℕ) → shown n ∈ v.columns → (t : Term) → σ n ≡ t → value s (patch g h) t ≡ value s h t
  unfolding patch
  patch_clear s g h n i (constant c) e = refl
  patch_clear s g h n i (shown k) e = refl
  patch_clear s g h n i (hidden k) e =
      if_neg (member term_discrete (hidden k) v.columns) (λ j. clear n k i j e) (g k) (h k)

  patched : (s g h : ℕ → ℕ) (t : Term) → t ∈ v.columns
      → value s (patch g h) (choose σ t) ≡ value (λ n. value s h (σ n)) g t
  unfolding patch
  patched s g h (constant c) m = refl
  patched s g h (shown n) m = patch_clear s g h n m (σ n) refl
  patched s g h (hidden k) m = if_pos (member term_discrete (hidden k) v.columns) m (g k) (h k)

  -- Archives that agree on the view agree on what is chosen from it.
  chosen_agree : (D E : Archive) → Agree v D E → (s : ℕ → ℕ) → Answer (over (choose σ) v ∷ []) D s
      → Answer (over (choose σ) v ∷ []) E s
  chosen_agree D E agree s a =
      let (h, r) = of_answer a in
      let t : ℕ → ℕ = λ n. value s h (σ n) in
      let (g, q) = of_answer ((agree t).0 (answer_of h
      (Memᴰ.cast (sym (over_over (value s h) (choose σ) v ∙ over_same _ _ v (λ u i. value_choose s h u))) r))) in
      answer_of (patch g h)
      (Memᴰ.cast (over_over (value s (patch g h)) (choose σ) v ∙ over_same _ _ v (patched s g h)) q)

pub rewrites_determines : (widths : List ℕ) (v A : Line) → Rewrites widths v A → Determines widths (v ∷ []) (A ∷ [])
rewrites_determines widths v A w D E fits_D fits_E agree s =
    let same_view : Agree v D E = agree v (Memᴰ.head refl) in (
      λ a. (w.same E fits_E s).0 (chosen_agree v w.σ w.clear D E same_view s ((w.same D fits_D s).1 a)),
      λ a. (w.same D fits_D s).0 (chosen_agree v w.σ w.clear E D (λ t. ((same_view t).1, (same_view t).0)) s
          ((w.same E fits_E s).1 a)),
    )
