-- The words of an explanation: no more than there are labels, each of 32 bits.
use mathlib.Core.Path.{refl, subst}
use mathlib.Core.Bool.{Bool, true, false, cond}
use mathlib.Core.List.Memᴰ
use mathlib.Core.List.{List, [], ◌∷◌, map}
use mathlib.Core.List.Permᴰ
use mathlib.Core.List.{Permᴰ}
use Prim.Native.Nat.{ℕ, zero, suc, ◌/◌, ◌^◌, ◌≤◌, ◌<◌, zero-le, suc-le-suc}
use native.Mathlib.Nat.{not-suc-le-zero, le_of_suc-le-suc}
use native.Mathlib.Omega.{arith}
use lib.Bits.{bit_and, and_le_l}
use lib.Dec.{eqb}
use lib.ListN.{length, get_or}
use Rattle.words.specs.Bits.{half_bits}
use Rattle.theory.specs.Query.{◌∈◌}
use Rattle.theory.specs.Executable.Test.{any}
use Rattle.labelling.specs.Settled.{settled}
use Rattle.word_list.specs.Order.{ascending}
use Rattle.word_list.proofs.Sorted.{ascending_permutes}
use Rattle.explain.specs.Explanation.{views_of, keep, distinct, least, lacking, explained}

-- at most n words, each with the property
pub data AtMost (P : ℕ → Type 0) : ℕ → List ℕ → Type 0 where
  none : {n : ℕ} → AtMost P n []
  one : {n x : ℕ} {l : List ℕ} → P x → AtMost P n l → AtMost P (suc n) (x ∷ l)

abbrev pub Narrow : ℕ → Type 0
Narrow x = x < 2 ^ half_bits

module _ {P : ℕ → Type 0} where
  more : {n : ℕ} {l : List ℕ} → AtMost P n l → AtMost P (suc n) l
  more none = none
  more (one p a) = one p (more a)

  either : {n : ℕ} {l m : List ℕ} (b : Bool) → AtMost P n l → AtMost P n m → AtMost P n (cond b l m)
  either true a b = a
  either false a b = b

  pub each_most : (n : ℕ) (l : List ℕ) → length l ≤ n → ((w : ℕ) → w ∈ l → P w) → AtMost P n l
  each_most n [] h f = none
  each_most zero (x ∷ l) h f = absurd (not-suc-le-zero h)
  each_most (suc n) (x ∷ l) h f =
      one (f x (Memᴰ.head refl)) (each_most n l (le_of_suc-le-suc h) (λ w m. f w (Memᴰ.tail m)))

  pub most_length : {n : ℕ} {l : List ℕ} → AtMost P n l → length l ≤ n
  most_length none = zero-le
  most_length (one p a) = suc-le-suc (most_length a)

  -- ---- what an explanation is made by

  map_most : {R : ℕ → Type 0} (f : ℕ → ℕ) → ((x : ℕ) → P x → R (f x)) → {n : ℕ} {l : List ℕ} → AtMost P n l → AtMost R n (map f l)
  map_most f h none = none
  map_most f h (one {x = x} p a) = one (h x p) (map_most f h a)

  keep_most : (f : ℕ → Bool) {n : ℕ} {l : List ℕ} → AtMost P n l → AtMost P n (keep f l)
  unfolding keep
  keep_most f none = none
  keep_most f (one {x = x} p a) = either (f x) (one p (keep_most f a)) (more (keep_most f a))

  distinct_most : {n : ℕ} {l : List ℕ} → AtMost P n l → AtMost P n (distinct l)
  unfolding distinct
  distinct_most none = none
  distinct_most (one {x = x} {l = l} p a) = either (any (eqb x) l) (more (distinct_most a)) (one p (distinct_most a))

  permuted_most : {l m : List ℕ} → Permᴰ l m → {n : ℕ} → AtMost P n l → AtMost P n m
  permuted_most Permᴰ.nil a = a
  permuted_most (Permᴰ.cons e r) (one p a) = one (subst P e p) (permuted_most r a)
  permuted_most (Permᴰ.swap e g) (one p (one q a)) = one (subst P g q) (one (subst P e p) a)
  permuted_most (Permᴰ.trans r s) a = permuted_most s (permuted_most r a)

  ascending_most : {n : ℕ} {l : List ℕ} → AtMost P n l → AtMost P n (ascending l)
  ascending_most {l = l} = permuted_most (Permᴰ.symm (ascending_permutes l))

pub most_get : {n : ℕ} {l : List ℕ} → AtMost Narrow n l → (i : ℕ) → get_or l i 0 < 2 ^ half_bits
most_get none i = omega arith
most_get (one p a) zero = p
most_get (one p a) (suc i) = most_get a i

pub explained_most : (granted : ℕ) {n : ℕ} {ws : List ℕ} → AtMost (λ w. w / 2 ^ half_bits < 2 ^ half_bits) n ws
    → AtMost Narrow n (explained granted ws)
unfolding explained least lacking views_of
explained_most granted {ws = ws} a =
    either (settled granted ws)
    (ascending_most (map_most (λ w. bit_and (views_of w) granted) (λ w h. omega (arith, and_le_l (views_of w) granted, h)) a))
    (ascending_most (distinct_most (keep_most _ (map_most views_of (λ w h. h) (keep_most _ a)))))
