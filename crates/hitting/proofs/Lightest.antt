-- The lightest list that hits a set weighs one view and the lightest list for what that view leaves, by the view for which this is
-- the least.
use mathlib.Core.Path.{◌≡◌, refl, sym, ap, ◌∙◌, subst}
use mathlib.Core.Logic.{⊎_elim}
use mathlib.Core.Bool.{Bool, true, false, false≢true}
use mathlib.Core.Option.{some, some-injective}
use mathlib.Core.List.Memᴰ
use mathlib.Core.List.{List, [], ◌∷◌}
use Prim.Native.Nat.{ℕ, zero, suc, ◌+◌, ◌^◌, ◌≤◌, ◌<◌}
use native.Mathlib.Decide.{map_dec}
use native.Mathlib.Omega.{arith}
use lib.ListN.{get_elem?, get_or}
use lib.Pow.{pow_mono}
use Rattle.words.specs.Bits.{bit}
use Rattle.words.specs.Sets.{Without, meet}
use Rattle.words.proofs.Bits.{below_power, bit_cases, bit_zero, bit_within}
use Rattle.words.proofs.ClearBits.{without_xor}
use Rattle.words.proofs.Tests.{meet_iff}
use Rattle.words.proofs.WithoutBits.{without_same, without_less}
use Rattle.theory.specs.Reduce.{without}
use Rattle.theory.proofs.Lists.{none≢some, place, without_subset, without_cases}
use Rattle.model.specs.Limits.{most_views}
use Rattle.hitting.specs.Best.{Numbered, of_view, Meets, Hits}
use Rattle.hitting.specs.Table.{view_weight, sets, Searched, left, weight, weight_with, Lightest}

is_true? : (b : Bool) → Dec (b ≡ true)
is_true? true = yes refl
is_true? false = no false≢true

-- a set of the first k labels is one of at most eight
pub few_sets : {k : ℕ} (hits costs : List ℕ) (m : ℕ) → Searched hits costs k → m < 2 ^ k → m < sets
few_sets {k} hits costs m s h = omega (arith, h, pow_mono {i = k} s.few)

-- ---- numbers that views may have

pub numbered_none : Numbered []
numbered_none v i = absurd (Memᴰ.not-nil i)

pub numbered_more : {v : ℕ} {M : List ℕ} → (1 ≤ v) × (v ≤ most_views) → Numbered M → Numbered (v ∷ M)
numbered_more k n u i = ⊎_elim (λ e. subst (λ (x : ℕ). (1 ≤ x) × (x ≤ most_views)) (sym e) k) (λ t. n u t) (Memᴰ.cases_cons i)

pub numbered_without : (i : ℕ) (M : List ℕ) → Numbered M → Numbered (without i M)
numbered_without i M n v m = n v (without_subset i M m)

module _ (hits costs : List ℕ) where
  -- ---- what a view leaves

  leaves : (m v : ℕ) → Without m (of_view hits v) (left hits m v)
  leaves m v = without_xor m (of_view hits v)

  pub meets? : (m v : ℕ) → Dec (Meets hits m v)
  meets? m v =
      let common = meet_iff m m (of_view hits v) in
      map_dec (λ t. let r = common.0 t in (r.0, r.2, r.3))
      (λ r. common.1 (r.0, bit_within m r.0 (below_power m) r.1, r.1, r.2)) (is_true? (meet m m (of_view hits v)))

  pub left_less : (m v : ℕ) → Meets hits m v → left hits m v < m
  left_less m v (j, x, y) = without_less j (leaves m v) x y

  pub left_same : (m v : ℕ) → (Meets hits m v → ⊥) → left hits m v ≡ m
  left_same m v n = without_same (leaves m v) (λ j x y. n (j, x, y))

  -- what is left was there, and the view does not hit it
  pub left_part : (m v j : ℕ) → bit (left hits m v) j ≡ 1 → (bit m j ≡ 1) × (bit (of_view hits v) j ≡ 0)
  left_part m v j x = ((leaves m v).bits j).0 x

  -- ---- a list with a view more, and with one fewer

  pub put_one : (m v : ℕ) (M : List ℕ) → Hits hits (left hits m v) M → Hits hits m (v ∷ M)
  put_one m v M h j x =
      ⊎_elim
      (λ z. let r = h j (((leaves m v).bits j).1 (x, z)) in (r.0, Memᴰ.tail r.1, r.2))
      (λ y. (v, Memᴰ.head refl, y)) (bit_cases (of_view hits v) j)

  pub take_one : (m v i : ℕ) (M : List ℕ) → Hits hits m M → get_elem? M i ≡ some v → Hits hits (left hits m v) (without i M)
  take_one m v i M h e j x =
      let (a, z) = left_part m v j x in
      let (u, b, y) = h j a in (
        u,
        ⊎_elim
            (λ q. absurd (omega (arith, z, y, ap (λ (t : ℕ). bit (of_view hits t) j) (some-injective u v (sym q ∙ e)))))
            (λ t. t) (without_cases i M b),
        y,
      )

  pub weight_without : (v i : ℕ) (M : List ℕ) → get_elem? M i ≡ some v
      → view_weight + of_view costs v + weight costs (without i M) ≡ weight costs M
  unfolding weight
  weight_without v i [] e = absurd (none≢some e)
  weight_without v zero (u ∷ M) e =
      ap (λ (x : ℕ). view_weight + of_view costs x + weight costs M) (sym (some-injective u v e))
  weight_without v (suc i) (u ∷ M) e = omega (arith, weight_without v i M e)

  -- ---- the lightest list

  pub lightest_nothing : Lightest hits costs 0 0
  unfolding weight
  lightest_nothing = record {
    list = [];
    numbered = numbered_none;
    hits_all = λ j x. absurd (omega (arith, bit_zero j, x));
    weighs = refl;
    least = λ M n h. omega arith;
  }

  pub lightest_more : (table : List ℕ) (m j w v : ℕ) → bit m j ≡ 1 → (1 ≤ v) × (v ≤ most_views) → Meets hits m v
      → weight_with hits costs table m v ≡ w
      → ((u : ℕ) → 1 ≤ u → u ≤ most_views → Meets hits m u → w ≤ weight_with hits costs table m u)
      → ((u : ℕ) → 1 ≤ u → u ≤ most_views → Meets hits m u → Lightest hits costs (left hits m u) (get_or table (left hits m u) 0))
      → Lightest hits costs m w
  unfolding weight
  lightest_more table m j w v x k meets made low rest =
      let F = rest v k.0 k.1 meets in
      record {
        list = v ∷ F.list;
        numbered = numbered_more k F.numbered;
        hits_all = put_one m v F.list F.hits_all;
        weighs = omega (arith, F.weighs, made);
        -- each list for m has a view that hits label j, and is without it a list for what that view leaves
        least = λ M n h.
            let (u, a, y) = h j x in
            let (i, e) = place a in
            let (from, to) = n u a in
            let G = rest u from to (j, x, y) in
            let lighter = G.least (without i M) (numbered_without i M n) (take_one m u i M h e) in
            omega (arith, lighter, low u from to (j, x, y), weight_without u i M e);
      }

  pub lightest_once : (m : ℕ) {w x : ℕ} → Lightest hits costs m w → Lightest hits costs m x → w ≡ x
  lightest_once m F G =
      let a = F.least G.list G.numbered G.hits_all in
      let b = G.least F.list F.numbered F.hits_all in omega (arith, a, b, F.weighs, G.weighs)
