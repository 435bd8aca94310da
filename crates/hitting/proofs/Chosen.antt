-- The list that the search chooses for a set: the first view that leaves a lightest list, and so on with what it leaves. It hits the set,
-- weighs the least, ascends, and comes before every other list that weighs as much.
use mathlib.Core.Path.{◌≡◌, refl, sym, ap, ◌∙◌, subst}
use mathlib.Core.Logic.{◌⊎◌, inl, inr, ⊎_elim}
use mathlib.Core.Option.{some}
use mathlib.Core.List.Memᴰ
use mathlib.Core.List.{List, [], ◌∷◌}
use Prim.Native.Nat.{ℕ, zero, suc, ◌+◌, ◌≤◌, ◌<◌}
use native.Mathlib.Decide.{ℕ_discrete, dec_lt}
use native.Mathlib.Omega.{arith}
use lib.Dec.{T}
use lib.ListN.{get_elem?}
use Rattle.words.specs.Bits.{bit}
use Rattle.words.proofs.Bits.{bit_zero}
use Rattle.theory.specs.Query.{◌∈◌}
use Rattle.theory.specs.Reduce.{without}
use Rattle.theory.proofs.Lists.{place, at_place}
use Rattle.model.specs.Limits.{most_views}
use Rattle.policy_text.specs.WellFormed.{ascend}
use Rattle.policy_text.proofs.Ascend.{ascend_more}
use Rattle.hitting.specs.Order.{Lower, here, further}
use Rattle.hitting.specs.Best.{Numbered, of_view, Meets, Hits}
use Rattle.hitting.specs.Table.{view_weight, left, weight, Lightest}
use Rattle.hitting.proofs.Lightest.{numbered_none, numbered_more, numbered_without, left_part, put_one, take_one, weight_without}
use Rattle.hitting.proofs.Lightest.{lightest_nothing, lightest_once}

module _ (hits costs : List ℕ) where
  -- no view for no label; else the first of the views that begin a lightest list, and then what is chosen for what it leaves
  pub data Chosen : ℕ → List ℕ → Type 0 where
    nothing : Chosen 0 []
    next : {m : ℕ} {l : List ℕ} (v w : ℕ) → (1 ≤ v) × (v ≤ most_views) → Meets hits m v
        → Lightest hits costs m (view_weight + of_view costs v + w) → Lightest hits costs (left hits m v) w
        → ((u x : ℕ) → 1 ≤ u → u < v → Lightest hits costs (left hits m u) x
        → view_weight + of_view costs u + x ≡ view_weight + of_view costs v + w → ⊥)
        → Chosen (left hits m v) l → Chosen m (v ∷ l)

  pub chosen_numbered : {m : ℕ} {l : List ℕ} → Chosen m l → Numbered l
  chosen_numbered nothing = numbered_none
  chosen_numbered (next v w k meets F G low c) = numbered_more k (chosen_numbered c)

  pub chosen_useful : {m : ℕ} {l : List ℕ} → Chosen m l → (v : ℕ) → v ∈ l → Meets hits m v
  chosen_useful nothing u i = absurd (Memᴰ.not-nil i)
  chosen_useful {m} (next v w k meets F G low c) u i =
      ⊎_elim (λ e. subst (λ (x : ℕ). Meets hits m x) (sym e) meets)
      (λ t. let (j, x, y) = chosen_useful c u t in (j, (left_part hits costs m v j x).0, y)) (Memᴰ.cases_cons i)

  pub chosen_hits : {m : ℕ} {l : List ℕ} → Chosen m l → Hits hits m l
  chosen_hits nothing = λ j x. absurd (omega (arith, bit_zero j, x))
  chosen_hits {m} (next {l = l} v w k meets F G low c) = put_one hits costs m v l (chosen_hits c)

  pub chosen_weight : {m : ℕ} {l : List ℕ} → Chosen m l → (w : ℕ) → Lightest hits costs m w → weight costs l ≡ w
  unfolding weight
  chosen_weight nothing w F = lightest_once hits costs 0 (lightest_nothing hits costs) F
  chosen_weight {m} (next v w k meets F G low c) t H =
      ap (λ (x : ℕ). view_weight + of_view costs v + x) (chosen_weight c w G) ∙ lightest_once hits costs m F H

  -- without one of its views, a lightest list is lightest for what that view leaves
  pub drop_one : (m t u i : ℕ) (M : List ℕ) → Lightest hits costs m t → Numbered M → Hits hits m M → weight costs M ≡ t
      → get_elem? M i ≡ some u → Lightest hits costs (left hits m u) (weight costs (without i M))
  unfolding weight
  drop_one m t u i M F n h weighs e = record {
    list = without i M;
    numbered = numbered_without i M n;
    hits_all = take_one hits costs m u i M h e;
    weighs = refl;
    least = λ N k g.
        let r = F.least (u ∷ N) (numbered_more (n u (at_place M i e)) k) (put_one hits costs m u N g) in
        omega (arith, r, weighs, weight_without hits costs u i M e);
  }

  -- in ascending numbers: each view of a lightest list begins one, and the first view that does so was chosen
  pub chosen_ascends : {m : ℕ} {l : List ℕ} → Chosen m l → T (ascend l)
  unfolding ascend
  chosen_ascends nothing = tt
  chosen_ascends {m} (next {l = l} v w k meets F G low c) = ascend_more v l above (chosen_ascends c)
    where
      all : Chosen m (v ∷ l)
      all = next v w k meets F G low c

      above : (y : ℕ) → y ∈ l → v < y
      above y b = go (dec_lt v y) (ℕ_discrete y v)
        where
          i : ℕ
          i = suc (place b).0

          total : weight costs (v ∷ l) ≡ view_weight + of_view costs v + w
          total = chosen_weight all _ F

          rest : Lightest hits costs (left hits m y) (weight costs (without i (v ∷ l)))
          rest = drop_one m (view_weight + of_view costs v + w) y i (v ∷ l) F (chosen_numbered all) (chosen_hits all) total (place b).1

          go : Dec (v < y) → Dec (y ≡ v) → v < y
          go (yes q) d = q
          go (no n) (no ne) =
              absurd
              (low y (weight costs (without i (v ∷ l))) (chosen_numbered c y b).0 (omega arith) rest
              (weight_without hits costs y i (v ∷ l) (place b).1 ∙ total))
          -- v once more would hit nothing of what is left
          go (no n) (yes q) =
              let (j, x, z) = chosen_useful c y b in
              absurd (omega (arith, (left_part hits costs m v j x).1, z, ap (λ (t : ℕ). bit (of_view hits t) j) q))

  -- of the lists that weigh as much, it has the lower number at the first difference
  pub chosen_first : {m : ℕ} {l : List ℕ} → Chosen m l → (M : List ℕ) → Numbered M → Hits hits m M → weight costs M ≡ weight costs l
      → (M ≡ l) ⊎ Lower l M
  unfolding weight
  chosen_first nothing [] n h e = inl refl
  chosen_first nothing (u ∷ M) n h e = absurd (omega (arith, e))
  chosen_first (next v w k meets F G low c) [] n h e = absurd (omega (arith, e))
  chosen_first {m} (next {l = l} v w k meets F G low c) (u ∷ M) n h e =
      go (dec_lt u v) (ℕ_discrete u v) (λ q g. chosen_first c M (λ x t. n x (Memᴰ.tail t)) g (omega (arith, e, ap (of_view costs) q)))
    where
      total : weight costs (u ∷ M) ≡ view_weight + of_view costs v + w
      total = e ∙ ap (λ (x : ℕ). view_weight + of_view costs v + x) (chosen_weight c w G)

      rest : Lightest hits costs (left hits m u) (weight costs M)
      rest = drop_one m (view_weight + of_view costs v + w) u zero (u ∷ M) F n h total refl

      go : Dec (u < v) → Dec (u ≡ v) → (u ≡ v → Hits hits (left hits m v) M → (M ≡ l) ⊎ Lower l M)
          → (◌≡◌ {A = List ℕ} (u ∷ M) (v ∷ l)) ⊎ Lower (v ∷ l) (u ∷ M)
      go (yes q) d later = absurd (low u (weight costs M) (n u (Memᴰ.head refl)).0 q rest total)
      go (no f) (no ne) later = let lower : v < u = omega arith in inr (here lower)
      go (no f) (yes q) later =
          ⊎_elim (λ r. inl (λ i. q i ∷ r i)) (λ r. inr (further (sym q) r))
          (later q (subst (λ (x : ℕ). Hits hits (left hits m x) M) q (take_one hits costs m u zero (u ∷ M) h refl)))
