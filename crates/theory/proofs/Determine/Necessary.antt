-- If a list of views determines a reduced query, each line of the query is covered by one of them.
--
-- Let A be a line of R. R has its frozen answer on the second of the two archives for A too. Taking the marks off and
-- thawing gives a map of R into itself, under which some line becomes A: that line stands on a marked row, and the view
-- that marked it covers A.
use mathlib.Core.Path.{◌≡◌, refl, sym, ap, ◌∙◌, subst}
use mathlib.Core.Logic.{◌⊎◌, inl, inr, ⊎_elim, ◌≢◌}
use mathlib.Core.Option.{some}
use mathlib.Core.List.Memᴰ
use mathlib.Core.List.{List}
use Prim.Native.Nat.{ℕ, ◌≤◌, ◌<◌}
use native.Mathlib.Nat.{le_refl}
use native.Mathlib.Decide.{ℕ_discrete}
use native.Mathlib.Omega.{arith}
use lib.ListN.{length, get_elem?, length-map}
use Rattle.theory.specs.Query.{Term, constant, shown, hidden, over, Line, Query, ◌∈◌}
use Rattle.theory.specs.Archive.{Row, Archive, AllFit, value, row, Answer, Determines}
use Rattle.theory.specs.Reduce.{image, Sends, without, Reduced}
use Rattle.theory.specs.Show.{Shared}
use Rattle.theory.specs.Cover.{at}
use Rattle.theory.proofs.Lists.{place, at_place, without_subset, without_other}
use Rattle.theory.proofs.Tuples.{get_d_map, get_d_mem}
use Rattle.theory.proofs.Terms.{from_hidden, is_hidden}
use Rattle.theory.proofs.Reduce.{reduced_place}
use Rattle.theory.proofs.Endomorphism.{Stands, hits, hidden_stay, one_to_one}
use Rattle.theory.proofs.Match.{row_cell}
use Rattle.theory.proofs.Determine.Inside.{Unshared, RulesIn, CoversIn}
use Rattle.theory.proofs.Determine.Freeze.{In, Frozen, frozen, freeze, large}
use Rattle.theory.proofs.Determine.Marked.{first_of, first_column, first_one, mark_of, IsMarked, Extra, extra_rows, width, view_width}
use Rattle.theory.proofs.Determine.Marked.{in_view, marked_cell, matched_cell, term_in, constants_match, equals_match}
use Rattle.theory.proofs.Determine.Thaw.{thaw, thaw_freeze, thaw_row, thaw_marked}
use Rattle.theory.proofs.Determine.Archives.{others, all_rows, of_others, agree, frozen_answer, rows_fit}

module _ {vs : List Line} {R : Query} {w : ℕ} (F : Frozen vs R w) (reduced : Reduced R) (i : ℕ) (A : Line)
    (A_at : get_elem? R i ≡ some A) (short : length A.columns ≤ w) (extra : Archive) (e : Extra F A extra)
    (answer : Answer R (others F i extra) F.s) where
  -- the hidden valuation on the second archive, and a line's row under it
  abbrev h : ℕ → ℕ
  h = answer.0

  abbrev stand : Line → Row
  stand B = row F.s h B

  in_R : A ∈ R
  in_R = at_place R i A_at

  abbrev to_term : ℕ → Term
  to_term = thaw F A short

  -- ---- the map

  g : ℕ → Term
  g n = to_term (h n)

  -- a line's image is its row, thawed
  thawed : (B : Line) → B ∈ R → over (image g) B ≡ over to_term (stand B)
  unfolding g
  thawed = thaw_row F A short h

  -- a line stands on the frozen row of another line than A, which is its image, or on a marked row, and its image is A
  goes : (B : Line) → B ∈ R
      → ((C : Line) × (C ∈ without i R) × (stand B ≡ freeze F C) × (over (image g) B ≡ C))
      ⊎ (IsMarked F A (stand B) × (over (image g) B ≡ A))
  goes B m =
      ⊎_elim
      (λ k. inl
      (k.0, k.1, k.2, thawed B m ∙ ap (over to_term) k.2 ∙ thaw_freeze F A short k.0 (without_subset i R k.1)))
      (λ k. inr (k, thawed B m ∙ thaw_marked F A short in_R k)) (of_others F i A extra e (stand B) (answer.1 B m))

  sends : Sends g R R
  sends B m =
      ⊎_elim (λ k. Memᴰ.cast k.3 (without_subset i R k.1)) (λ k. Memᴰ.cast k.1 in_R) (goes B m)

  -- ---- a variable that stands on a mark

  -- the line that becomes A stands on a marked row
  on_marked : (B : Line) → B ∈ R → over (image g) B ≡ A → IsMarked F A (stand B)
  on_marked B m e =
      ⊎_elim (λ k. absurd (reduced_place reduced i A A_at (Memᴰ.cast (sym e ∙ k.3) k.1))) (λ k. k.0) (goes B m)

  -- only a hidden variable has a mark for its value
  on_mark : (t : Term) (p : ℕ) → In R t → p < w → value F.s h t ≡ F.mark p → (n : ℕ) × (t ≡ hidden n)
  on_mark (constant c) p m l k = absurd (F.far (constant c) p m l k)
  on_mark (shown n) p m l k = absurd (F.far (shown n) p m l k)
  on_mark (hidden n) p m l k = (n, refl)

  -- it stands in no line that becomes another one than A
  nowhere_else : (n k p : ℕ) → Stands n R → g n ≡ hidden k → p < w → h n ≡ F.mark p
      → (j : ℕ) (C : Line) → j ≢ i → get_elem? R j ≡ some C → hidden k ∈ C.columns → ⊥
  nowhere_else n k p s q l on j C ne C_at m =
      let b = hits reduced sends C (at_place R j C_at) in
      let t = Memᴰ.of_map (image g) b.0.columns (subst (λ (B : Line). hidden k ∈ B.columns) (sym b.2) m) in
      let n' = from_hidden g t.0 k t.2 in
      let in_B : hidden n'.0 ∈ b.0.columns = Memᴰ.cast (sym n'.1) t.1 in
      let same = one_to_one reduced sends n n'.0 s (b.0, b.1, in_B) (q ∙ sym t.2 ∙ ap (image g) n'.1) in
      ⊎_elim
      (λ f.
      let there : h n ∈ (freeze F f.0).columns =
      subst (λ (r : Row). h n ∈ r.columns) {y = freeze F f.0} f.2
      (Memᴰ.cast (ap h same) (Memᴰ.map (value F.s h) in_B)) in
      let u = Memᴰ.of_map (frozen F) f.0.columns there in
      F.far u.0 p (f.0, without_subset i R {x = f.0} f.1, u.1) l (u.2 ∙ on))
      (λ f. reduced_place reduced i A A_at
      (Memᴰ.cast (sym f.1 ∙ b.2) (without_other i j R ne C_at)))
      (goes b.0 b.1)

  -- ---- the view covers A

  module _ (B : Line) (B_in : B ∈ R) (becomes : over (image g) B ≡ A) (k : IsMarked F A (stand B)) where
    wide : length k.v.columns ≡ length B.columns
    wide = sym (width F A k) ∙ length-map B.columns (value F.s h)

    module _ (p : ℕ) (l : p < length k.v.columns) where
      l_B : p < length B.columns
      l_B = subst (λ (n : ℕ). p < n) wide l

      in_B : at B p ∈ B.columns
      in_B = get_d_mem B.columns p (constant 0) l_B

      -- the cell of the line that becomes A, and the term that it becomes
      cell_B : value F.s h (at B p) ≡ value k.s (mark_of F k.v) (at k.v p)
      cell_B = sym (row_cell F.s h B p l_B) ∙ marked_cell F A k p l

      term_A : image g (at B p) ≡ at A p
      term_A =
          sym (get_d_map (image g) B.columns p (constant 0) (constant 0) l_B) ∙ ap (λ (C : Line). at C p) becomes

    -- a view's hidden variable has its first column among the marked ones
    first_below : (m : ℕ) → hidden m ∈ k.v.columns → first_of k.v.columns (hidden m) < w
    first_below m i = omega (arith, (first_column k.v.columns (hidden m) i).0, view_width F A k, short)

    -- under a hidden variable of the view the line has a hidden variable that stands on its mark, and so has A
    record Hides (p m : ℕ) : Type 0 where
      n : ℕ
      low : first_of k.v.columns (hidden m) < w
      stands_on : h n ≡ mark_of F k.v m
      stands : Stands n R
      n' : ℕ
      becomes_hidden : g n ≡ hidden n'
      A_has : at A p ≡ hidden n'

    hides : (p m : ℕ) → p < length k.v.columns → at k.v p ≡ hidden m → Hides p m
    hides p m l q =
        let on : value F.s h (at B p) ≡ mark_of F k.v m = cell_B p l ∙ ap (value k.s (mark_of F k.v)) q in
        let low = first_below m (Memᴰ.cast (sym q) (in_view F A k p l)) in
        let f = on_mark (at B p) (first_of k.v.columns (hidden m)) (B, B_in, in_B p l) low on in
        let stands : Stands f.0 R = (B, B_in, Memᴰ.cast (sym f.1) (in_B p l)) in
        let stay = hidden_stay reduced sends f.0 stands in
        record {
          n = f.0;
          low = low;
          stands_on = sym (ap (value F.s h) f.1) ∙ on;
          stands = stands;
          n' = stay.0;
          becomes_hidden = stay.1;
          A_has = sym (term_A p l) ∙ ap (image g) f.1 ∙ stay.1;
        }

    unshared : (p m : ℕ) → Hides p m → Unshared R (at A p)
    unshared p m f = subst (Unshared R) (sym f.A_has) (λ x. by_place x (ℕ_discrete x.i i))
      where
        elsewhere : (j : ℕ) (C : Line) → j ≢ i → get_elem? R j ≡ some C → hidden f.n' ∈ C.columns → ⊥
        elsewhere = nowhere_else f.n f.n' _ f.stands f.becomes_hidden f.low f.stands_on

        by_place : (x : Shared R f.n') → Dec (x.i ≡ i) → ⊥
        by_place x (yes q) = elsewhere x.j x.B (λ r. x.apart (q ∙ sym r)) x.B_at x.in_B
        by_place x (no q) = elsewhere x.i x.A q x.A_at x.in_A

    -- A's equal terms come from equal terms, which stand on one mark
    same_mark : (p q m : ℕ) → p < length k.v.columns → q < length k.v.columns → at k.v p ≡ hidden m
        → at A p ≡ at A q → mark_of F k.v m ≡ value k.s (mark_of F k.v) (at k.v q)
    same_mark p q m l l' x same =
        let f = hides p m l x in
        let back = from_hidden g (at B q) f.n' (term_A q l' ∙ sym same ∙ f.A_has) in
        let one = one_to_one reduced sends f.n back.0 f.stands
        (B, B_in, Memᴰ.cast (sym back.1) (in_B q l'))
        (f.becomes_hidden ∙ sym f.A_has ∙ same ∙ sym (term_A q l') ∙ ap (image g) back.1) in
        sym f.stands_on ∙ ap h one ∙ sym (ap (value F.s h) back.1) ∙ cell_B q l'

    same_view : (u t : Term) (m : ℕ) → u ∈ k.v.columns → In R t → hidden m ∈ k.v.columns → value k.s k.h u ≡ frozen F t
        → mark_of F k.v m ≡ value k.s (mark_of F k.v) u → hidden m ≡ u
    same_view (constant c) t m i j o q f = absurd (F.far t _ j (first_below m o) (sym q ∙ sym f))
    same_view (shown n) t m i j o q f = absurd (F.far t _ j (first_below m o) (sym q ∙ sym f))
    same_view (hidden n) t m i j o q f =
        first_one k.v.columns (hidden m) (hidden n) o i (F.marks _ _ (first_below m o) (first_below n i) f)

    rules_at : (p q : ℕ) → p < length k.v.columns → q < length k.v.columns
        → RulesIn R (at k.v p) (at k.v q) (at A p) (at A q)
    rules_at p q l l' =
        record {
          constants = λ c x. constants_match F A k in_R p c l x;
          equals = λ x. equals_match F A k in_R p q l l' x;
          hides = λ x. let m = is_hidden (at k.v p) x in unshared p m.0 (hides p m.0 l m.1);
          only = λ x y.
              let m = is_hidden (at k.v p) x in
              m.1
              ∙ same_view (at k.v q) (at A q) m.0 (in_view F A k q l') (term_in F A k in_R q l')
              (Memᴰ.cast (sym m.1) (in_view F A k p l)) (matched_cell F A k q l')
              (same_mark p q m.0 l l' m.1 y);
        }

    covers_A : CoversIn R k.v A
    covers_A = record { table = ap (λ (r : Row). r.table) k.matched; width = view_width F A k; rules = rules_at }

  pub covering_view : (v : Line) × (v ∈ vs) × CoversIn R v A
  covering_view =
      let b = hits reduced sends A in_R in
      let k = on_marked b.0 b.1 b.2 in
      (k.v, k.v_in, covers_A b.0 b.1 b.2 k)

pub determined_covers : (widths : List ℕ) (vs : List Line) (R : Query) → Reduced R → AllFit widths R → Determines widths vs R
    → (A : Line) → A ∈ R → (v : Line) × (v ∈ vs) × CoversIn R v A
determined_covers widths vs R reduced fits determined A m =
    let (i, A_at) = place m in
    let F = large vs R (length A.columns) in
    let (extra, e) = extra_rows (mark_of F) (freeze F A) vs in
    let fit = rows_fit F i A extra e A_at fits in
    covering_view F reduced i A A_at (le_refl (length A.columns)) extra e
    ((determined (all_rows F i A extra) (others F i extra) fit (λ r n. fit r (Memᴰ.tail n)) (agree F i A extra e) F.s).0
    (frozen_answer F i A extra A_at))
