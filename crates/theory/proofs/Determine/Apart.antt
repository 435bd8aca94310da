-- A query with a line that no view covers: two archives on which the views agree and the query's answers differ.
use mathlib.Core.Path.{◌≡◌, refl, sym, ap, ◌∙◌, subst, subst₂}
use mathlib.Core.Logic.{⊎_elim}
use mathlib.Core.Option.{some}
use mathlib.Core.List.Memᴰ
use mathlib.Core.List.{List, ◌++◌, map, map-map}
use Prim.Native.Nat.{ℕ, ◌≤◌, ◌<◌}
use native.Mathlib.Omega.{arith}
use lib.ListN.{length, get_elem?, length-map}
use Rattle.theory.specs.Query.{Term, constant, shown, hidden, over, Line, Query, ◌∈◌, NoClash}
use Rattle.theory.specs.Archive.{Row, Archive, AllFit, value}
use Rattle.theory.specs.Reduce.{without, Reduced, ReducesTo}
use Rattle.theory.specs.Cover.{at, Covers, IsHidden}
use Rattle.theory.specs.Apart.{NoRepeats, one_more, TellsApart}
use Rattle.theory.specs.Executable.Show.{show_term, show}
use Rattle.theory.proofs.Lists.{at_place, without_subset, without_repeats, place_unique, map_no_repeats, append_no_repeats}
use Rattle.theory.proofs.Lists.{map_place, map_without}
use Rattle.theory.proofs.Tuples.{get_d_mem, map_same}
use Rattle.theory.proofs.Terms.{is_hidden}
use Rattle.theory.proofs.Match.{cell, row_cell}
use Rattle.theory.proofs.Reduce.{reduced_answers, reduced_reduced, reduced_fits, reduced_clear, reduced_no_repeats}
use Rattle.theory.proofs.Executable.Show.{show_shows}
use Rattle.theory.proofs.Determine.Inside.{CoversIn, covers_shown}
use Rattle.theory.proofs.Determine.Freeze.{In, Frozen, frozen, freeze}
use Rattle.theory.proofs.Determine.Marked.{first_of, first_column, mark_of, IsMarked, Extra, width, view_width, in_view, marked_cell}
use Rattle.theory.proofs.Determine.Marked.{constants_match, equals_match}
use Rattle.theory.proofs.Determine.Thaw.{thaw, thaw_freeze}
use Rattle.theory.proofs.Determine.Archives.{others, all_rows, agree, frozen_answer, rows_fit}
use Rattle.theory.proofs.Determine.Necessary.{covering_view}
use Rattle.theory.proofs.Determine.Block.{variables, columns, Spared, frozen_row, ExtraRows}
use Rattle.theory.proofs.Determine.Block.{frozen_shown, block, block_freezes, block_extra}

-- ---- no row stands twice

module _ {vs : List Line} {R : Query} {w : ℕ} (F : Frozen vs R w) (reduced : Reduced R) (i : ℕ) (A : Line)
    (A_at : get_elem? R i ≡ some A) (short : length A.columns ≤ w) (uncovered : (v : Line) → v ∈ vs → CoversIn R v A → ⊥) where
  in_R : A ∈ R
  in_R = at_place R i A_at

  freeze_one : (B C : Line) → B ∈ R → C ∈ R → freeze F B ≡ freeze F C → B ≡ C
  freeze_one B C m n e = sym (thaw_freeze F A short B m) ∙ ap (over (thaw F A short)) e ∙ thaw_freeze F A short C n

  -- a marked row is no line's: else its view would have no hidden variable, and cover A
  marked_not_frozen : (r : Row) → IsMarked F A r → (C : Line) → C ∈ R → r ≡ freeze F C → ⊥
  marked_not_frozen r k C c e =
      uncovered k.v k.v_in
      (record {
        table = ap (λ (b : Row). b.table) k.matched;
        width = view_width F A k;
        rules = λ p q l m.
            record {
              constants = λ d x. constants_match F A k in_R p d l x;
              equals = λ x. equals_match F A k in_R p q l m x;
              hides = λ x. absurd (none_hidden p l x);
              only = λ x y. absurd (none_hidden p l x);
            };
      })
    where
      wide : length k.v.columns ≡ length C.columns
      wide = sym (width F A k) ∙ ap (λ (b : Row). length b.columns) e ∙ length-map C.columns (frozen F)

      none_hidden : (p : ℕ) → p < length k.v.columns → IsHidden (at k.v p) → ⊥
      none_hidden p l x =
          let (m, f) = is_hidden (at k.v p) x in
          let l_C = subst (λ (n : ℕ). p < n) wide l in
          let b = (first_column k.v.columns (hidden m) (Memᴰ.cast (sym f) (in_view F A k p l))).0 in
          F.far (at C p) (first_of k.v.columns (hidden m)) (C, c, get_d_mem C.columns p (constant 0) l_C)
          (omega (arith, b, view_width F A k, short))
          (sym (row_cell F.s F.h C p l_C) ∙ ap (λ (y : Row). cell y p) (sym e) ∙ marked_cell F A k p l
          ∙ ap (value k.s (mark_of F k.v)) f)

  frozen_once : NoRepeats (map (freeze F) (without i R))
  frozen_once =
      map_no_repeats (freeze F) (without i R) (λ B C m n. freeze_one B C (without_subset i R m) (without_subset i R n))
      (without_repeats R i (reduced_no_repeats reduced))

  rows_once : (extra : Archive) → Extra F A extra → NoRepeats extra → NoRepeats (all_rows F i A extra)
  rows_once extra e once =
      one_more
      (λ m. ⊎_elim
      (λ k. let (C, c, q) = Memᴰ.of_map (freeze F) (without i R) k in
      place_unique R i (reduced_no_repeats reduced) A_at (Memᴰ.cast (sym (freeze_one C A (without_subset i R c) in_R q)) c))
      (λ k. marked_not_frozen (freeze F A) (e.only (freeze F A) k) A in_R refl)
      (Memᴰ.append_cases (map (freeze F) (without i R)) m))
      (append_no_repeats (map (freeze F) (without i R)) extra frozen_once once
      (λ r a b. let (C, c, q) = Memᴰ.of_map (freeze F) (without i R) a in
      marked_not_frozen r (e.only r b) C (without_subset i R c) (sym q)))

-- ---- the two archives

-- for the query as handed in, any freezing and any list of the marked rows without repeats
pub told_apart : (widths : List ℕ) (vs : List Line) {Q R : Query} → NoClash Q → AllFit widths Q → ReducesTo Q R
    → {w : ℕ} (F : Frozen vs R w) (i : ℕ) (A : Line) → get_elem? R i ≡ some A → length A.columns ≤ w
    → ((v : Line) → v ∈ vs → Covers v (over (show_term R) A) → ⊥)
    → (extra : Archive) → Extra F A extra → NoRepeats extra → TellsApart widths (λ v. v ∈ vs) Q (freeze F A) (others F i extra)
told_apart widths vs {Q} {R} clear fits r F i A A_at short uncovered extra e once =
    record {
      fit = rows_fit F i A extra e A_at (reduced_fits r fits);
      once = rows_once F (reduced_reduced r) i A A_at short bare extra e once;
      agree = agree F i A extra e;
      answer = F.s;
      has = (reduced_answers r (all_rows F i A extra) F.s).1 (frozen_answer F i A extra A_at);
      lacks = λ x.
          let x_R = (reduced_answers r (others F i extra) F.s).0 x in
          let (v, m, c) = covering_view F (reduced_reduced r) i A A_at short extra e x_R in bare v m c;
    }
  where
    bare : (v : Line) → v ∈ vs → CoversIn R v A → ⊥
    bare v m c = uncovered v m ((covers_shown R (reduced_clear r clear) v A (at_place R i A_at)).1 c)

-- ---- the same by what a program has: a block of values, and the reduced query with its shared variables shown

shown_in : (R : Query) (t : Term) → In R t → In (show R) (show_term R t)
unfolding show
shown_in R t (A, a, m) = (over (show_term R) A, Memᴰ.map (over (show_term R)) a, Memᴰ.map (show_term R) m)

module _ (base : ℕ) (R : Query) where
  spared_bare : Spared base (show R) → Spared base R
  unfolding show_term
  spared_bare spare c i = spare c (shown_in R (constant c) i)

  module _ (small_s : (n : ℕ) → In (show R) (shown n) → n < variables) (small_h : (n : ℕ) → In (show R) (hidden n) → n < variables) where
    shown_small : (n : ℕ) → In R (shown n) → n < variables
    unfolding show_term
    shown_small n i = small_s n (shown_in R (shown n) i)

    hidden_small : (n : ℕ) → In R (hidden n) → n < variables
    hidden_small n i =
        ⊎_elim (λ r. small_s n (subst (In (show R)) r.1 (shown_in R (hidden n) i)))
        (λ r. small_h n (subst (In (show R)) r.1 (shown_in R (hidden n) i))) (show_shows R (hidden n))

pub told_apart_shown : (widths : List ℕ) (vs : List Line) {Q R : Query} → NoClash Q → AllFit widths Q → ReducesTo Q R
    → (base : ℕ) → Spared base (show R) → Spared base vs
    → ((n : ℕ) → In (show R) (shown n) → n < variables) → ((n : ℕ) → In (show R) (hidden n) → n < variables)
    → (i : ℕ) (A' : Line) → get_elem? (show R) i ≡ some A' → length A'.columns ≤ columns → ((v : Line) → v ∈ vs → Covers v A' → ⊥)
    → (extra : Archive) → ExtraRows base vs (frozen_row base A') extra → NoRepeats extra
    → TellsApart widths (λ v. v ∈ vs) Q (frozen_row base A') (map (frozen_row base) (without i (show R)) ++ extra)
unfolding show
told_apart_shown widths vs {Q} {R} clear fits r base spare spare_views small_s small_h i A' A'-at short uncovered extra e once =
    let (A, A_at, is) = map_place (over (show_term R)) R i A' A'-at in
    subst (λ (B : Line). Told B) is (told A A_at) short uncovered e
  where
    clear_R : NoClash R
    clear_R = reduced_clear r clear

    s_R : (n : ℕ) → In R (shown n) → n < variables
    s_R = shown_small base R small_s small_h

    h_R : (n : ℕ) → In R (hidden n) → n < variables
    h_R = hidden_small base R small_s small_h

    spare_R : Spared base R
    spare_R = spared_bare base R spare

    F : Frozen vs R columns
    F = block base vs R clear_R s_R h_R spare_R spare_views

    same : (B : Line) → freeze F B ≡ frozen_row base (over (show_term R) B)
    same B = block_freezes base vs R clear_R s_R h_R spare_R spare_views B ∙ sym (frozen_shown base R B)

    others_same : map (freeze F) (without i R) ≡ map (frozen_row base) (without i (show R))
    others_same =
        map_same (freeze F) (λ B. frozen_row base (over (show_term R) B)) (without i R) (λ B m. same B)
        ∙ sym (map-map (frozen_row base) (over (show_term R)) (without i R)) ∙ ap (map (frozen_row base)) (map_without (over (show_term R)) i R)

    Told : Line → Type 0
    Told B = length B.columns ≤ columns → ((v : Line) → v ∈ vs → Covers v B → ⊥) → ExtraRows base vs (frozen_row base B) extra
        → TellsApart widths (λ v. v ∈ vs) Q (frozen_row base B) (map (frozen_row base) (without i (show R)) ++ extra)

    told : (A : Line) → get_elem? R i ≡ some A → Told (over (show_term R) A)
    told A A_at short_A bare e_A =
        subst₂ (TellsApart widths (λ v. v ∈ vs) Q) (same A) (ap (λ (l : Archive). l ++ extra) others_same)
        (told_apart widths vs clear fits r F i A A_at (subst (λ (n : ℕ). n ≤ columns) (length-map A.columns (show_term R)) short_A) bare
        extra
        (block_extra base vs R clear_R s_R h_R spare_R spare_views A extra
        (subst (λ (b : Row). ExtraRows base vs b extra) (frozen_shown base R A) e_A))
        once)
