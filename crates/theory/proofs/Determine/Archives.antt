-- Two archives for the line A at place i of a query: its frozen lines with the marked rows of A, and those without the row of A.
use mathlib.Core.Path.{◌≡◌, sym, ap, ◌∙◌}
use mathlib.Core.Logic.{◌⊎◌, inl, inr, ⊎_elim}
use mathlib.Core.Option.{some, some-injective}
use mathlib.Core.List.Memᴰ
use mathlib.Core.List.{List, ◌∷◌, ◌++◌, map}
use Prim.Native.Nat.{ℕ}
use lib.ListN.{length, get_elem?}
use Rattle.theory.specs.Query.{Line, Query, ◌∈◌, Fits}
use Rattle.theory.specs.Archive.{Row, Archive, AllFit, value, Answer, Agree}
use Rattle.theory.specs.Reduce.{without}
use Rattle.theory.proofs.Lists.{at_place, without_subset, without_cases}
use Rattle.theory.proofs.Tuples.{fits_like, fits_over}
use Rattle.theory.proofs.Match.{answer_of, of_answer}
use Rattle.theory.proofs.Determine.Freeze.{Frozen, freeze}
use Rattle.theory.proofs.Determine.Marked.{mark_of, IsMarked, Extra, table, width, view_width}

module _ {vs : List Line} {R : Query} {w : ℕ} (F : Frozen vs R w) (i : ℕ) where
  -- the rows of the other lines, and the marked rows
  abbrev pub others : Archive → Archive
  others extra = map (freeze F) (without i R) ++ extra

  module _ (A : Line) (extra : Archive) where
    -- "The odd row comes first"
    abbrev pub all_rows : Archive
    all_rows = freeze F A ∷ others extra

    -- the query has its frozen answer on the first archive
    pub frozen_answer : get_elem? R i ≡ some A → Answer R all_rows F.s
    frozen_answer A_at = (
      F.h,
      λ B m.
          ⊎_elim (λ e. Memᴰ.head (ap (freeze F) (some-injective B A (sym e ∙ A_at))))
          (λ k. Memᴰ.tail (Memᴰ.append_left extra (Memᴰ.map (freeze F) k))) (without_cases i R m),
    )

    module _ (e : Extra F A extra) where
      -- a row of the second archive is another line's, or a marked one
      pub of_others : (r : Row) → r ∈ others extra → ((C : Line) × (C ∈ without i R) × (r ≡ freeze F C)) ⊎ IsMarked F A r
      of_others r m =
          ⊎_elim (λ k. let (C, c, q) = Memᴰ.of_map (freeze F) (without i R) k in inl (C, c, sym q)) (λ k. inr (e.only r k))
          (Memᴰ.append_cases (map (freeze F) (without i R)) m)

      -- no view tells the two apart
      pub agree : (v : Line) → v ∈ vs → Agree v all_rows (others extra)
      agree v m s = (
        λ x.
            let (h, k) = of_answer x in
            ⊎_elim
            (λ q. answer_of (mark_of F v) (Memᴰ.append_right (map (freeze F) (without i R)) (e.each v s h m q)))
            (λ t. answer_of h t) (Memᴰ.cases_cons k),
        λ x. let (h, k) = of_answer x in answer_of h (Memᴰ.tail k),
      )

      -- all rows fit, where the lines of R do
      pub rows_fit : {widths : List ℕ} → get_elem? R i ≡ some A → AllFit widths R → AllFit widths all_rows
      rows_fit {widths} A_at fits r m =
          ⊎_elim (λ q. frozen_fits A (at_place R i A_at) r q)
          (λ t. ⊎_elim (λ (C, c, q). frozen_fits C (without_subset i R c) r q)
          (λ k. fits_like (sym (table F A k)) (sym (width F A k ∙ view_width F A k)) (fits A (at_place R i A_at)))
          (of_others r t))
          (Memᴰ.cases_cons m)
        where
          frozen_fits : (C : Line) → C ∈ R → (b : Row) → b ≡ freeze F C → Fits widths b
          frozen_fits C c b q =
              fits_like (ap (λ (x : Row). x.table) (sym q)) (ap (λ (x : Row). length x.columns) (sym q))
              (fits_over (value F.s F.h) C (fits C c))
