-- Determining a single line: it is its own reduced form and shares no variable with another.
use mathlib.Core.Path.{◌≡◌, refl, sym, ◌∙◌, subst}
use mathlib.Core.Logic.{◌↔◌}
use mathlib.Core.Option.{some}
use mathlib.Core.List.Memᴰ
use mathlib.Core.List.{List, [], ◌∷◌}
use Prim.Native.Nat.{ℕ, zero, suc}
use native.Mathlib.Nat.{not-suc-le-zero, le_of_suc-le-suc}
use lib.ListN.{get_elem?}
use Rattle.theory.specs.Query.{Term, constant, shown, hidden, Line, ◌∈◌, Fits}
use Rattle.theory.specs.Archive.{AllFit, Determines}
use Rattle.theory.specs.Reduce.{Reduced}
use Rattle.theory.specs.Show.{Shared}
use Rattle.theory.specs.Cover.{at, IsHidden, Covers}
use Rattle.theory.proofs.Lists.{none≢some}
use Rattle.theory.proofs.Cover.{equal_terms}
use Rattle.theory.proofs.Determine.Inside.{Unshared, CoversIn}
use Rattle.theory.proofs.Determine.Sufficient.{covered_determines}
use Rattle.theory.proofs.Determine.Necessary.{determined_covers}

module _ (A : Line) where
  one_reduced : Reduced (A ∷ [])
  one_reduced zero g = Memᴰ.not-nil (g.2 A (Memᴰ.head refl))
  one_reduced (suc i) g = not-suc-le-zero (le_of_suc-le-suc g.0)

  one_place : (i : ℕ) (B : Line) → get_elem? (A ∷ []) i ≡ some B → i ≡ zero
  one_place zero B e = refl
  one_place (suc i) B e = absurd (none≢some e)

  none_shared : (n : ℕ) → Shared (A ∷ []) n → ⊥
  none_shared n s = s.apart (one_place s.i s.A s.A_at ∙ sym (one_place s.j s.B s.B_at))

  hidden_unshared : (t : Term) → IsHidden t ↔ Unshared (A ∷ []) t
  hidden_unshared (constant c) = (λ h. h, λ h. h)
  hidden_unshared (shown n) = (λ h. h, λ h. h)
  hidden_unshared (hidden n) = (λ h. none_shared n, λ h. tt)

  covers_alone : (v : Line) → Covers v A ↔ CoversIn (A ∷ []) v A
  covers_alone v = (
    (λ c. record {
      table = c.table;
      width = c.width;
      rules = λ p q l m.
          let r = c.rules p q l m in
          record {
            constants = r.constants;
            equals = equal_terms _ _ _ _ r (c.rules q p m l);
            hides = λ h. (hidden_unshared (at A p)).0 (r.hides h);
            only = r.only;
          };
    }),
    λ c. record {
      table = c.table;
      width = c.width;
      rules = λ p q l m.
          let r = c.rules p q l m in
          record {
            constants = r.constants;
            equals = λ x e. r.equals e;
            hides = λ h. (hidden_unshared (at A p)).1 (r.hides h);
            only = r.only;
          };
    },
  )

-- A list of views determines a single line exactly when one of them covers it.
pub views_determine_line : (widths : List ℕ) (vs : List Line) (A : Line) → Fits widths A
    → Determines widths vs (A ∷ []) ↔ ((v : Line) × (v ∈ vs) × Covers v A)
views_determine_line widths vs A fits = (
  λ d.
      let all_fit : AllFit widths (A ∷ []) = λ B m. subst (Fits widths) (sym (Memᴰ.eq_of_singleton m)) fits in
      let (v, m, c) = determined_covers widths vs (A ∷ []) (one_reduced A) all_fit d A (Memᴰ.head refl) in
      (v, m, (covers_alone A v).1 c),
  λ (v, m, c). covered_determines widths vs (A ∷ [])
      (λ B n. (v, m, subst (CoversIn (A ∷ []) v) (sym (Memᴰ.eq_of_singleton n)) ((covers_alone A v).0 c))),
)
