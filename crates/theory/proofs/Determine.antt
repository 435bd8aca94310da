-- Determinacy is covering: document 01's "Determining" against its "Reducing", "Showing" and "Covering". And covering is
-- rewriting.
pub mod Inside
pub mod Sufficient
pub mod Freeze
pub mod Marked
pub mod Thaw
pub mod Archives
pub mod Necessary
pub mod Block
pub mod Apart
pub mod OneLine
use mathlib.Core.Path.{◌≡◌, refl, sym, subst}
use mathlib.Core.Logic.Iff
use mathlib.Core.Logic.{◌↔◌}
use mathlib.Core.List.Memᴰ
use mathlib.Core.List.{List, [], ◌∷◌}
use Prim.Native.Nat.{ℕ}
use lib.Dec.{T}
use Rattle.theory.specs.Query.{over, Line, Query, ◌∈◌, NoClash, Fits}
use Rattle.theory.specs.Archive.{Archive, AllFit, Answer, Determines}
use Rattle.theory.specs.Reduce.{ReducesTo}
use Rattle.theory.specs.Show.{Shown}
use Rattle.theory.specs.Cover.{Covers, Rewrites}
use Rattle.theory.specs.Executable.Test.{any}
use Rattle.theory.specs.Executable.Reduce.{reduce}
use Rattle.theory.specs.Executable.Show.{show_term, show}
use Rattle.theory.specs.Executable.Cover.{covers}
use Rattle.theory.specs.Executable.Label.{settles}
use Rattle.theory.proofs.Rewrite.{covers_rewrites, rewrites_determines}
use Rattle.theory.proofs.Reduce.{reduced_answers, reduced_reduced, reduced_fits, reduced_clear, reduced_map}
use Rattle.theory.proofs.Executable.Test.{all_iff, any_iff}
use Rattle.theory.proofs.Executable.Reduce.{reduce_reduces}
use Rattle.theory.proofs.Executable.Show.{show_is_shown, shown_is_show}
use Rattle.theory.proofs.Executable.Cover.{covers_iff}
use Inside.{covers_shown}
use Sufficient.{covered_determines}
use Necessary.{determined_covers}
use OneLine.{views_determine_line}

-- ---- a query

-- queries with the same answers are determined by the same views
determines_like : (widths : List ℕ) (vs : List Line) {Q R : Query} → ((D : Archive) (s : ℕ → ℕ) → Answer Q D s ↔ Answer R D s)
    → Determines widths vs Q → Determines widths vs R
determines_like widths vs same d D E fit_d fit_e agree s =
    let k = d D E fit_d fit_e agree s in
    ((λ x. (same E s).0 (k.0 ((same D s).1 x))), (λ x. (same D s).0 (k.1 ((same E s).1 x))))

-- A list of views determines a query exactly when each line of its reduced form, shared variables shown, is covered by one of
-- them: for any reduced form, any form so shown, and for the query as handed in.
pub determines_iff_covered : (widths : List ℕ) (vs : List Line) {Q R S : Query} → NoClash Q → AllFit widths Q → ReducesTo Q R → Shown R S
    → Determines widths vs Q ↔ ((A : Line) → A ∈ S → (v : Line) × (v ∈ vs) × Covers v A)
unfolding show
determines_iff_covered widths vs {Q} {R} {S} clear fits r shows = (
  λ d A m. to d A (subst (λ (X : Query). A ∈ X) is m),
  λ cover. from (λ A m. cover A (subst (λ (X : Query). A ∈ X) (sym is) m)),
)
  where
    is : S ≡ show R
    is = shown_is_show R shows

    clear_R : NoClash R
    clear_R = reduced_clear r clear

    to : Determines widths vs Q → (A : Line) → A ∈ show R → (v : Line) × (v ∈ vs) × Covers v A
    to d A m =
        let b = Memᴰ.of_map (over (show_term R)) R m in
        let c = determined_covers widths vs R (reduced_reduced r) (reduced_fits r fits)
        (determines_like widths vs (reduced_answers r) d) b.0 b.1 in
        (c.0, c.1, subst (Covers c.0) b.2 ((covers_shown R clear_R c.0 b.0 b.1).1 c.2))

    from : ((A : Line) → A ∈ show R → (v : Line) × (v ∈ vs) × Covers v A) → Determines widths vs Q
    from cover =
        determines_like widths vs (λ D s. Iff.symm (reduced_answers r D s))
        (covered_determines widths vs R
        (λ A m.
        let c = cover (over (show_term R) A) (Memᴰ.map (over (show_term R)) m) in
        (c.0, c.1, (covers_shown R clear_R c.0 A m).0 c.2)))

-- "A partition settles a query when each label holds one of its views": exactly when it determines it.
pub settles_iff_determines : (widths : List ℕ) (vs : List Line) (Q : Query) → NoClash Q → AllFit widths Q
    → T (settles vs Q) ↔ Determines widths vs Q
unfolding settles
settles_iff_determines widths vs Q clear fits =
    let k = determines_iff_covered widths vs clear fits (reduce_reduces Q) (show_is_shown (reduce Q)) in
    let a = all_iff (λ A. any (λ v. covers v A) vs) (show (reduce Q)) in (
      (λ t. k.1 (λ A m.
          let r = (any_iff (λ v. covers v A) vs).0 (a.0 t A m) in (r.0, r.1, (covers_iff r.0 A).0 r.2))),
      λ d. a.1 (λ A m.
          let r = k.0 d A m in (any_iff (λ v. covers v A) vs).1 (r.0, r.1, (covers_iff r.0 A).1 r.2)),
    )

-- more views determine more
pub determines_grows : (widths : List ℕ) (vs ws : List Line) (Q : Query) → ((v : Line) → v ∈ vs → v ∈ ws)
    → Determines widths vs Q → Determines widths ws Q
determines_grows widths vs ws Q inside d D E fit_d fit_e agree = d D E fit_d fit_e (λ v m. agree v (inside v m))

-- ---- one line

-- a single view determines a single line exactly when it covers it
pub view_determines_line : (widths : List ℕ) (v A : Line) → Fits widths A → Determines widths (v ∷ []) (A ∷ []) ↔ Covers v A
view_determines_line widths v A fits =
    let k = views_determine_line widths (v ∷ []) A fits in (
      λ d. let (u, m, c) = k.0 d in subst (λ (w : Line). Covers w A) (Memᴰ.eq_of_singleton m) c,
      λ c. k.1 (v, Memᴰ.head refl, c),
    )

-- "This must be proved the same as rewriting"
pub covers_iff_rewrites : (widths : List ℕ) (v A : Line) → Fits widths A → Covers v A ↔ Rewrites widths v A
covers_iff_rewrites widths v A fits =
    (covers_rewrites widths v A, λ w. (view_determines_line widths v A fits).0 (rewrites_determines widths v A w))

-- no view at all determines no query that has a line
pub no_view_determines : (widths : List ℕ) (Q : Query) (A : Line) → NoClash Q → AllFit widths Q → A ∈ Q → Determines widths [] Q → ⊥
unfolding show
no_view_determines widths Q A clear fits m d =
    let r = reduce_reduces Q in
    let k = reduced_map r in
    let c = (determines_iff_covered widths [] clear fits r (show_is_shown (reduce Q))).0 d _
    (Memᴰ.map (over (show_term (reduce Q))) (k.1 A m)) in
    Memᴰ.not-nil c.1
