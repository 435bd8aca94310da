-- Facts on lists that the kit's libraries lack: places, lists place by place, a list without one of its places, lists without
-- repeats.
use mathlib.Core.Path.{◌≡◌, refl, sym, ap, subst, ◌∙◌}
use mathlib.Core.Logic.{◌⊎◌, inl, inr, ⊎_elim, ◌≢◌}
use mathlib.Core.Option.{Option, none, some, some-injective}
use mathlib.Core.List.Memᴰ
use mathlib.Core.List.{List, [], ◌∷◌, ◌++◌, map}
use mathlib.Core.List.Permᴰ
use mathlib.Core.List.{Permᴰ}
use Prim.Native.Nat.{ℕ, zero, suc, ◌≤◌, ◌<◌, zero-le, suc-le-suc}
use native.Mathlib.Nat.{not-suc-le-zero, le_of_suc-le-suc, suc_inj, suc-ne-zero}
use native.Mathlib.Omega.{arith}
use lib.ListN.{length, get_elem?, get_or}
use Rattle.theory.specs.Query.{◌∈◌, Pointwise, ends, next}
use Rattle.theory.specs.Reduce.{without}
use Rattle.theory.specs.Apart.{NoRepeats, none_repeats, one_more}

-- ---- places

pub none≢some : {X : Type 0} {x : X} → ◌≡◌ {A = Option X} none (some x) → ⊥
none≢some e = let z : ◌≡◌ {A = ℕ} 0 1 = cc in omega arith

module _ {X : Type 0} where
  -- an element's place
  pub place : {x : X} {l : List X} → x ∈ l → (i : ℕ) × (get_elem? l i ≡ some x)
  place (Memᴰ.head e) = (zero, ap some (sym e))
  place (Memᴰ.tail m) = let r = place m in (suc r.0, r.1)

  -- what stands at a place is an element
  pub at_place : (l : List X) (i : ℕ) {x : X} → get_elem? l i ≡ some x → x ∈ l
  at_place [] i e = absurd (none≢some e)
  at_place (y ∷ l) zero {x} e = Memᴰ.head (sym (some-injective y x e))
  at_place (y ∷ l) (suc i) e = Memᴰ.tail (at_place l i e)

  pub place_below : (l : List X) (i : ℕ) {x : X} → get_elem? l i ≡ some x → i < length l
  place_below [] i e = absurd (none≢some e)
  place_below (y ∷ l) zero e = suc-le-suc zero-le
  place_below (y ∷ l) (suc i) e = suc-le-suc (place_below l i e)

  pub below_place : (l : List X) (i : ℕ) → i < length l → (x : X) × (get_elem? l i ≡ some x)
  below_place [] i h = absurd (not-suc-le-zero h)
  below_place (y ∷ l) zero h = (y, refl)
  below_place (y ∷ l) (suc i) h = below_place l i (le_of_suc-le-suc h)

  -- what stands at a place, whatever is given where nothing stands
  pub there : (l : List X) (i : ℕ) (d : X) {x : X} → get_elem? l i ≡ some x → get_or l i d ≡ x
  there [] i d e = absurd (none≢some e)
  there (y ∷ l) zero d {x} e = some-injective y x e
  there (y ∷ l) (suc i) d e = there l i d e

  pub none_long : (l : List X) → length l ≡ 0 → l ≡ []
  none_long [] e = refl
  none_long (x ∷ l) e = absurd (omega (arith, e))

  -- ---- a list without one of its places

  pub without_subset : (i : ℕ) (l : List X) {x : X} → x ∈ without i l → x ∈ l
  without_subset i [] m = m
  without_subset zero (y ∷ l) m = Memᴰ.tail m
  without_subset (suc i) (y ∷ l) m =
      ⊎_elim (λ e. Memᴰ.head e) (λ t. Memᴰ.tail (without_subset i l t)) (Memᴰ.cases_cons m)

  -- an element stands at the place or is left
  pub without_cases : (i : ℕ) (l : List X) {x : X} → x ∈ l → (get_elem? l i ≡ some x) ⊎ (x ∈ without i l)
  without_cases i [] m = absurd (Memᴰ.not-nil m)
  without_cases zero (y ∷ l) m = ⊎_elim (λ e. inl (ap some (sym e))) (λ t. inr t) (Memᴰ.cases_cons m)
  without_cases (suc i) (y ∷ l) {x} m =
      ⊎_elim (λ e. inr (Memᴰ.head e)) (λ t. ⊎_elim (λ e. inl e) (λ k. inr (Memᴰ.tail k)) (without_cases i l t))
      (Memᴰ.cases_cons m)

  -- what stands at another place is left
  pub without_other : (i j : ℕ) (l : List X) {x : X} → j ≢ i → get_elem? l j ≡ some x → x ∈ without i l
  without_other i j [] ne e = absurd (none≢some e)
  without_other zero zero (y ∷ l) ne e = absurd (ne refl)
  without_other zero (suc j) (y ∷ l) ne e = at_place l j e
  without_other (suc i) zero (y ∷ l) {x} ne e = Memᴰ.head (sym (some-injective y x e))
  without_other (suc i) (suc j) (y ∷ l) ne e = Memᴰ.tail (without_other i j l (λ p. ne (ap suc p)) e)

  pub length_without : (i : ℕ) (l : List X) → i < length l → suc (length (without i l)) ≡ length l
  length_without i [] h = absurd (not-suc-le-zero h)
  length_without zero (y ∷ l) h = refl
  length_without (suc i) (y ∷ l) h = ap suc (length_without i l (le_of_suc-le-suc h))

  -- a later place, after one is taken out, was one further on
  pub without_twice : (i j : ℕ) (l : List X) {x : X} → x ∈ without j (without i l) → i ≤ j → x ∈ without (suc j) l
  without_twice i j [] m h = m
  without_twice zero j (y ∷ l) m h = Memᴰ.tail m
  without_twice (suc i) zero (y ∷ l) m h = absurd (not-suc-le-zero h)
  without_twice (suc i) (suc j) (y ∷ l) m h =
      ⊎_elim (λ e. Memᴰ.head e) (λ t. Memᴰ.tail (without_twice i j l t (le_of_suc-le-suc h)))
      (Memᴰ.cases_cons m)

  -- ---- lists without repeats

  pub tail_repeats : {x : X} {l : List X} → NoRepeats (x ∷ l) → NoRepeats l
  tail_repeats (one_more n r) = r

  pub head_repeats : {x : X} {l : List X} → NoRepeats (x ∷ l) → x ∈ l → ⊥
  head_repeats (one_more n r) = n

  -- at two places stand two elements
  pub no_repeats : (l : List X) → ((i j : ℕ) (x : X) → get_elem? l i ≡ some x → get_elem? l j ≡ some x → i ≡ j) → NoRepeats l
  no_repeats [] h = none_repeats
  no_repeats (x ∷ l) h =
      one_more (λ m. suc-ne-zero _ (h (suc (place m).0) zero x (place m).1 refl))
      (no_repeats l (λ i j y e f. suc_inj (h (suc i) (suc j) y e f)))

  -- taking an element out by its place
  pub permuted_out : {x : X} (l : List X) (i : ℕ) → get_elem? l i ≡ some x → Permᴰ (x ∷ without i l) l
  permuted_out [] i e = absurd (none≢some e)
  permuted_out {x} (y ∷ l) zero e = Permᴰ.cons (sym (some-injective y x e)) (Permᴰ.refl l)
  permuted_out (y ∷ l) (suc i) e =
      Permᴰ.trans (Permᴰ.swap refl refl) (Permᴰ.cons refl (permuted_out l i e))

  pub without_repeats : (l : List X) (i : ℕ) → NoRepeats l → NoRepeats (without i l)
  without_repeats [] i r = r
  without_repeats (y ∷ l) zero r = tail_repeats r
  without_repeats (y ∷ l) (suc i) r =
      one_more (λ m. head_repeats r (without_subset i l m)) (without_repeats l i (tail_repeats r))

  pub place_unique : (l : List X) (i : ℕ) {x : X} → NoRepeats l → get_elem? l i ≡ some x → x ∈ without i l → ⊥
  place_unique [] i r e m = none≢some e
  place_unique (y ∷ l) zero {x} r e m = head_repeats r (Memᴰ.cast (some-injective y x e) m)
  place_unique (y ∷ l) (suc i) {x} r e m =
      ⊎_elim (λ p. head_repeats r (Memᴰ.cast (sym p) (at_place l i e))) (λ t. place_unique l i (tail_repeats r) e t)
      (Memᴰ.cases_cons m)

  -- two lists without repeats that have the same elements
  pub same_elements : (xs ys : List X) → NoRepeats xs → NoRepeats ys → ((x : X) → x ∈ xs → x ∈ ys) → ((y : X) → y ∈ ys → y ∈ xs)
      → Permᴰ xs ys
  same_elements [] [] rx ry to from = Permᴰ.nil
  same_elements [] (y ∷ ys) rx ry to from = absurd (Memᴰ.not-nil (from y (Memᴰ.head refl)))
  same_elements (x ∷ xs) ys rx ry to from =
      let p = place (to x (Memᴰ.head refl)) in
      Permᴰ.trans
      (Permᴰ.cons refl
      (same_elements xs (without p.0 ys) (tail_repeats rx) (without_repeats ys p.0 ry)
      (λ z m. ⊎_elim (λ e. absurd (head_repeats rx (Memᴰ.cast (some-injective x z (sym p.1 ∙ e)) m))) (λ k. k)
      (without_cases p.0 ys (to z (Memᴰ.tail m))))
      (λ z m. ⊎_elim (λ e. absurd (place_unique ys p.0 ry p.1 (Memᴰ.cast (sym e) m))) (λ k. k)
      (Memᴰ.cases_cons (from z (without_subset p.0 ys m))))))
      (permuted_out ys p.0 p.1)

-- an element of a list is one of the list in another order
pub permuted_in : {X : Type 0} {x : X} {l m : List X} → Permᴰ l m → x ∈ l → x ∈ m
permuted_in Permᴰ.nil i = i
permuted_in (Permᴰ.cons e p) i =
    ⊎_elim (λ here. Memᴰ.head (here ∙ e)) (λ t. Memᴰ.tail (permuted_in p t)) (Memᴰ.cases_cons i)
permuted_in (Permᴰ.swap e f) i =
    ⊎_elim (λ here. Memᴰ.tail (Memᴰ.head (here ∙ e)))
    (λ t. ⊎_elim (λ here. Memᴰ.head (here ∙ f)) (λ u. Memᴰ.tail (Memᴰ.tail u)) (Memᴰ.cases_cons t))
    (Memᴰ.cases_cons i)
permuted_in (Permᴰ.trans p q) i = permuted_in q (permuted_in p i)

-- two lists without repeats and without a common element
pub append_no_repeats : {X : Type 0} (k l : List X) → NoRepeats k → NoRepeats l → ((x : X) → x ∈ k → x ∈ l → ⊥) → NoRepeats (k ++ l)
append_no_repeats [] l r q apart = q
append_no_repeats (x ∷ k) l r q apart =
    one_more (λ m. ⊎_elim (λ a. head_repeats r a) (λ b. apart x (Memᴰ.head refl) b) (Memᴰ.append_cases k m))
    (append_no_repeats k l (tail_repeats r) q (λ y a b. apart y (Memᴰ.tail a) b))

-- a function that is one to one on a list without repeats keeps it so
pub map_no_repeats : {X Y : Type 0} (f : X → Y) (l : List X) → ((x y : X) → x ∈ l → y ∈ l → f x ≡ f y → x ≡ y) → NoRepeats l
    → NoRepeats (map f l)
map_no_repeats f [] one r = none_repeats
map_no_repeats f (x ∷ l) one r =
    one_more
    (λ m. let k = Memᴰ.of_map f l m in
    head_repeats r (Memᴰ.cast (one x k.0 (Memᴰ.head refl) (Memᴰ.tail k.1) (sym k.2)) k.1))
    (map_no_repeats f l (λ y z i j. one y z (Memᴰ.tail i) (Memᴰ.tail j)) (tail_repeats r))

-- ---- a list changed element by element

module _ {X Y : Type 0} (f : X → Y) where
  pub map_place : (l : List X) (i : ℕ) (y : Y) → get_elem? (map f l) i ≡ some y → (x : X) × (get_elem? l i ≡ some x) × (f x ≡ y)
  map_place [] i y e = absurd (none≢some e)
  map_place (x ∷ l) zero y e = (x, refl, some-injective (f x) y e)
  map_place (x ∷ l) (suc i) y e = map_place l i y e

  pub map_without : (i : ℕ) (l : List X) → map f (without i l) ≡ without i (map f l)
  map_without i [] = refl
  map_without zero (x ∷ l) = refl
  map_without (suc i) (x ∷ l) = ap (λ (m : List Y). f x ∷ m) (map_without i l)

-- ---- two lists, place by place

pub pointwise_of : {X Y : Type 0} {P : X → Y → Type 0} (f : X → Y) (l : List X) → ((x : X) → x ∈ l → P x (f x)) → Pointwise P l (map f l)
pointwise_of f [] h = ends
pointwise_of f (x ∷ l) h = next (h x (Memᴰ.head refl)) (pointwise_of f l (λ y m. h y (Memᴰ.tail m)))

pub pointwise_is_map : {X Y : Type 0} {P : X → Y → Type 0} (f : X → Y) → ((x : X) (y : Y) → P x y → y ≡ f x)
    → {l : List X} {m : List Y} → Pointwise P l m → m ≡ map f l
pointwise_is_map f h ends = refl
pointwise_is_map f h (next {x = x} {y = y} p rest) = cc (h x y p, pointwise_is_map f h rest)

pub pointwise_once : {X Y : Type 0} {P : X → Y → Type 0} → ((x : X) (y z : Y) → P x y → P x z → y ≡ z)
    → {l : List X} {m k : List Y} → Pointwise P l m → Pointwise P l k → m ≡ k
pointwise_once h ends ends = refl
pointwise_once h (next {x = x} {y = y} p rest) (next {y = z} q others) = cc (h x y z p q, pointwise_once h rest others)

-- what stands beside an element
pub pointwise_in : {X Y : Type 0} {P : X → Y → Type 0} {l : List X} {m : List Y} {y : Y} → Pointwise P l m → y ∈ m
    → (x : X) × (x ∈ l) × P x y
pointwise_in ends i = absurd (Memᴰ.not-nil i)
pointwise_in {P = P} (next {x = x} p rest) i =
    ⊎_elim (λ here. (x, Memᴰ.head refl, subst (P x) (sym here) p))
    (λ t. let (z, m, q) = pointwise_in rest t in (z, Memᴰ.tail m, q)) (Memᴰ.cases_cons i)
