-- The table, set by set, and the least of the weights with each view.
use mathlib.Core.Path.{◌≡◌, sym, ap, subst, ◌∙◌}
use mathlib.Core.Logic.{◌⊎◌, inr, ⊎_elim}
use mathlib.Core.List.{List}
use Prim.Native.Nat.{ℕ, zero, suc, zero-le, ◌+◌, ◌-◌, ◌*◌, ◌≤◌, ◌<◌, min}
use native.Mathlib.Decide.{ℕ_discrete, dec_le}
use native.Mathlib.Omega.{arith}
use lib.Count.{count_trailing_zeros}
use lib.ListN.{get_or, set, length-set, replicate, length-replicate, get_or-replicate}
use lib.Seq.{get_or-set_same, get_or-set_other}
use Rattle.words.proofs.Lowest.{trailing_least}
use Rattle.model.specs.Limits.{most_views}
use Rattle.hitting.specs.Best.{of_view, Meets}
use Rattle.hitting.specs.Table.{view_weight, most_cost, too_heavy, sets, SomeSet, left, Lightest, weight_with, Weighed, Filled}
use Rattle.hitting.proofs.Lightest.{few_sets, meets?, left_less, left_same, lightest_more}

-- view v + 1 is the one at place v
pub at_view : (l : List ℕ) (v : ℕ) → of_view l (v + 1) ≡ get_or l v 0
at_view l v = let same : v + 1 - 1 ≡ v = omega arith in ap (λ (k : ℕ). get_or l k 0) same

-- a set of these labels may be weighed with each view
pub weighed : (hits costs table : List ℕ) {m n v : ℕ} → SomeSet hits costs m → Filled hits costs table n → v < most_views
    → Weighed hits costs table m v
weighed hits costs table {m} {v = v} (k, s, h) f inside = record {
  hits_long = s.hits_long;
  costs_long = s.costs_long;
  table_long = f.long;
  few = few_sets hits costs m s h;
  inside = inside;
  cheap = subst (λ (x : ℕ). x ≤ most_cost) (at_view costs v) (s.cheap (v + 1));
  light = f.light;
}

-- a set that is not empty has a label, and some view hits it
pub some_view : (hits costs : List ℕ) (m : ℕ) → SomeSet hits costs m → 0 < m
    → (v : ℕ) × (1 ≤ v) × (v ≤ most_views) × Meets hits m v
some_view hits costs m (k, s, h) some =
    let low = trailing_least k m some h in
    let (v, from, to, hit) = s.hittable (count_trailing_zeros k m) low.below in (v, from, to, (count_trailing_zeros k m, low.set, hit))

module _ (hits costs table : List ℕ) (m : ℕ) where
  -- no list yet, or one with a view that hits a label of the set
  abbrev pub Found : ℕ → Type 0
  Found least =
      (least ≡ too_heavy)
      ⊎ ((u : ℕ) × (1 ≤ u) × (u ≤ most_views) × Meets hits m u × (weight_with hits costs table m u ≡ least))

  -- the lightest weight with one of the views up to v
  pub record LeastTo (v least : ℕ) : Type 0 where
    pub most : least ≤ too_heavy
    pub low : (u : ℕ) → 1 ≤ u → u ≤ v → Meets hits m u → least ≤ weight_with hits costs table m u
    pub found : Found least

module _ (hits costs table : List ℕ) (m : ℕ) (s : SomeSet hits costs m) (f : Filled hits costs table m) where
  -- a view that hits no label of the set leaves it whole, and the table has no list for it yet
  idle : (v : ℕ) → (Meets hits m v → ⊥) → too_heavy ≤ weight_with hits costs table m v
  idle v n =
      let e = ap (λ (x : ℕ). get_or table x 0) (left_same hits costs m v n) in
      let (k, q, h) = s in
      omega (arith, e, f.unfilled m (omega arith) (few_sets hits costs m q h))

  pub least_more : {v least : ℕ} → v < most_views → LeastTo hits costs table m v least
      → LeastTo hits costs table m (v + 1) (min least (weight_with hits costs table m (v + 1)))
  least_more {v} {least} inside l = go (meets? hits costs m (v + 1)) (dec_le least w)
    where
      w : ℕ
      w = weight_with hits costs table m (v + 1)

      low : min least w ≤ w → (u : ℕ) → 1 ≤ u → u ≤ v + 1 → Meets hits m u → min least w ≤ weight_with hits costs table m u
      low here u from to meets = at (ℕ_discrete u (v + 1))
        where
          at : Dec (u ≡ v + 1) → min least w ≤ weight_with hits costs table m u
          at (yes e) = subst (λ (x : ℕ). min least w ≤ weight_with hits costs table m x) (sym e) here
          at (no ne) = omega (arith, l.low u from (omega (arith, ne)) meets)

      go : Dec (Meets hits m (v + 1)) → Dec (least ≤ w) → LeastTo hits costs table m (v + 1) (min least w)
      go d (yes e) =
          let same : min least w ≡ least = omega (arith, e) in
          record {
            most = omega (arith, l.most);
            low = low (omega arith);
            found = subst (Found hits costs table m) (sym same) l.found;
          }
      go (yes y) (no n) =
          let same : w ≡ min least w = omega (arith, n) in
          record {
            most = omega (arith, l.most);
            low = low (omega arith);
            found = inr (v + 1, omega arith, omega arith, y, same);
          }
      go (no x) (no n) = absurd (omega (arith, idle (v + 1) x, l.most, n))

  -- some view hits a label of the set, so its list is not too heavy, and the least is the lightest
  pub least_all : {least : ℕ} → 0 < m → LeastTo hits costs table m most_views least
      → Lightest hits costs m least × (least ≤ m * (view_weight + most_cost))
  least_all {least} some l =
      let (u, from, to, meets) = some_view hits costs m s some in
      let (j, x, y) = meets in
      let least_u = l.low u from to meets in
      let smaller = left_less hits costs m u meets in
      let bound = f.bound (left hits m u) smaller in
      let few = few_sets hits costs m s.1 s.2 in
      let cheap = s.1.cheap u in
      let most : least ≤ m * (view_weight + most_cost) = omega (arith, least_u, smaller, bound, cheap) in
      ⊎_elim (λ e. absurd (omega (arith, e, most, few)))
      (λ r.
      let (v, first, last, hit, e) = r in (
        lightest_more hits costs table m j least v x (first, last) hit e (λ z a b. l.low z a b)
            (λ z a b t. f.done (left hits m z) (left_less hits costs m z t)),
        most,
      ))
      l.found

-- ---- the table

replicate_most : (n i a : ℕ) → get_or (replicate n a) i 0 ≤ a
replicate_most zero i a = zero-le
replicate_most (suc n) zero a = omega arith
replicate_most (suc n) (suc i) a = replicate_most n i a

-- at first it has no set
pub filled_none : (hits costs : List ℕ) → Filled hits costs (replicate sets too_heavy) 0
filled_none hits costs = record {
  long = length-replicate sets too_heavy;
  light = λ m. replicate_most sets m too_heavy;
  done = λ m h. absurd (omega (arith, h));
  bound = λ m h. absurd (omega (arith, h));
  unfilled = λ m h k. get_or-replicate sets m too_heavy 0 k;
}

-- one set more
pub filled_more : (hits costs table : List ℕ) {m w : ℕ} → m < sets → Filled hits costs table m → Lightest hits costs m w
    → w ≤ m * (view_weight + most_cost) → Filled hits costs (set table m w) (m + 1)
filled_more hits costs table {m} {w} few f light bound = record {
  long = length-set table m w ∙ f.long;
  light = λ x. at (λ y. y ≤ too_heavy) x (λ e. omega (arith, bound, few)) (λ ne. f.light x);
  done = λ x h. at (Lightest hits costs x) x (λ e. subst (λ (y : ℕ). Lightest hits costs y w) (sym e) light)
      (λ ne. f.done x (omega (arith, h, ne)));
  bound = λ x h. at (λ y. y ≤ x * (view_weight + most_cost)) x (λ e. omega (arith, bound, e)) (λ ne. f.bound x (omega (arith, h, ne)));
  unfilled = λ x h k. at (λ y. y ≡ too_heavy) x (λ e. absurd (omega (arith, h, e))) (λ ne. f.unfilled x (omega (arith, h)) k);
}
  where
    at : (P : ℕ → Type 0) (x : ℕ) → (x ≡ m → P w) → ((x ≡ m → ⊥) → P (get_or table x 0)) → P (get_or (set table m w) x 0)
    at P x here there = go (ℕ_discrete x m)
      where
        go : Dec (x ≡ m) → P (get_or (set table m w) x 0)
        go (yes e) =
            subst P (sym (ap (λ (y : ℕ). get_or (set table m w) y 0) e ∙ get_or-set_same table m w 0 (omega (arith, few, f.long)))) (here e)
        go (no ne) = subst P (sym (get_or-set_other table m x w 0 ne)) (there ne)
