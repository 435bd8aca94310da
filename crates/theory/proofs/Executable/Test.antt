-- What the tests on lists and terms say.
use mathlib.Core.Path.{◌≡◌, refl, sym, ap, ap₂, subst}
use mathlib.Core.Logic.{◌↔◌, ◌⊎◌, ⊎_elim}
use mathlib.Core.Bool.{Bool, true, false, not, ◌&&◌, ◌||◌, and-true, and_assoc, or-false, or_assoc}
use mathlib.Core.List.Memᴰ
use mathlib.Core.List.{List, [], ◌∷◌, ◌++◌, map}
use Prim.Native.Nat.{ℕ, zero, suc, ◌<◌}
use native.Mathlib.Nat.{not-suc-le-zero, le_refl, le_step, le_of_suc-le-suc, eq-or-lt_of_le}
use lib.Dec.{T, eqb_refl}
use mir.Facts.{and_yes, yes_and, or_yes, eqb_yes}
use Rattle.theory.specs.Query.{Term, constant, shown, hidden, ◌∈◌}
use Rattle.theory.specs.Executable.Test.{all, any, all_below, same, kind, number}

-- ---- on truth values

pub and_iff : (a b : Bool) → T (a && b) ↔ (T a × T b)
and_iff a b = (and_yes a b, λ h. yes_and a b h.0 h.1)

or_left : (a b : Bool) → T a → T (a || b)
or_left true b h = tt
or_left false b h = absurd h

or_right : (a b : Bool) → T b → T (a || b)
or_right true b h = tt
or_right false b h = h

pub or_iff : (a b : Bool) → T (a || b) ↔ (T a ⊎ T b)
or_iff a b = (or_yes a b, ⊎_elim (or_left a b) (or_right a b))

pub implies_iff : (a b : Bool) → T (not a || b) ↔ (T a → T b)
implies_iff true b = (λ h t. h, λ h. h tt)
implies_iff false b = (λ h t. absurd t, λ h. tt)

-- two tests that pass together are equal
pub same_test : (a b : Bool) → (T a → T b) → (T b → T a) → a ≡ b
same_test true true f g = refl
same_test true false f g = absurd (f tt)
same_test false true f g = absurd (g tt)
same_test false false f g = refl

-- ---- on lists and numbers

module _ {X : Type 0} (f : X → Bool) where
  all_to : (l : List X) → T (all f l) → (x : X) → x ∈ l → T (f x)
  unfolding all
  all_to [] h x m = absurd (Memᴰ.not-nil m)
  all_to (y ∷ l) h x m =
      let k = and_yes (f y) (all f l) h in
      ⊎_elim (λ e. subst (λ (z : X). T (f z)) (sym e) k.0) (λ t. all_to l k.1 x t) (Memᴰ.cases_cons m)

  all_from : (l : List X) → ((x : X) → x ∈ l → T (f x)) → T (all f l)
  unfolding all
  all_from [] h = tt
  all_from (y ∷ l) h =
      yes_and (f y) (all f l) (h y (Memᴰ.head refl)) (all_from l (λ x m. h x (Memᴰ.tail m)))

  pub all_iff : (l : List X) → T (all f l) ↔ ((x : X) → x ∈ l → T (f x))
  all_iff l = (all_to l, all_from l)

  -- one more behind
  pub all_more : (l : List X) (x : X) → all f (l ++ x ∷ []) ≡ (all f l && f x)
  unfolding all
  all_more [] x = and-true (f x)
  all_more (y ∷ l) x = rw (all_more l x) (sym (and_assoc (f y) (all f l) (f x)))

  pub any_more : (l : List X) (x : X) → any f (l ++ x ∷ []) ≡ (any f l || f x)
  unfolding any
  any_more [] x = or-false (f x)
  any_more (y ∷ l) x = rw (any_more l x) (sym (or_assoc (f y) (any f l) (f x)))

  any_to : (l : List X) → T (any f l) → (x : X) × (x ∈ l) × T (f x)
  unfolding any
  any_to [] h = absurd h
  any_to (y ∷ l) h =
      ⊎_elim (λ k. (y, Memᴰ.head refl, k)) (λ k. let r = any_to l k in (r.0, Memᴰ.tail r.1, r.2))
      (or_yes (f y) (any f l) h)

  any_from : (l : List X) (x : X) → x ∈ l → T (f x) → T (any f l)
  unfolding any
  any_from [] x m h = absurd (Memᴰ.not-nil m)
  any_from (y ∷ l) x m h =
      ⊎_elim (λ e. or_left (f y) (any f l) (subst (λ (z : X). T (f z)) e h))
      (λ t. or_right (f y) (any f l) (any_from l x t h)) (Memᴰ.cases_cons m)

  pub any_iff : (l : List X) → T (any f l) ↔ ((x : X) × (x ∈ l) × T (f x))
  any_iff l = (any_to l, λ r. any_from l r.0 r.1 r.2)

module _ (f : ℕ → Bool) where
  below_to : (n : ℕ) → T (all_below n f) → (k : ℕ) → k < n → T (f k)
  unfolding all_below
  below_to zero h k l = absurd (not-suc-le-zero l)
  below_to (suc n) h k l =
      let r = and_yes (f n) (all_below n f) h in
      ⊎_elim (λ e. subst (λ (z : ℕ). T (f z)) (sym e) r.0) (λ m. below_to n r.1 k m)
      (eq-or-lt_of_le (le_of_suc-le-suc l))

  below_from : (n : ℕ) → ((k : ℕ) → k < n → T (f k)) → T (all_below n f)
  unfolding all_below
  below_from zero h = tt
  below_from (suc n) h = yes_and (f n) (all_below n f) (h n (le_refl (suc n))) (below_from n (λ k l. h k (le_step l)))

  pub all_below_iff : (n : ℕ) → T (all_below n f) ↔ ((k : ℕ) → k < n → T (f k))
  all_below_iff n = (below_to n, below_from n)

-- ---- on terms

same_self : (t : Term) → T (same t t)
unfolding same kind number
same_self (constant c) = eqb_refl c
same_self (shown n) = eqb_refl n
same_self (hidden n) = eqb_refl n

same_to : (t u : Term) → T (same t u) → t ≡ u
unfolding same kind number
same_to (constant c) (constant d) h = ap constant (eqb_yes h)
same_to (constant c) (shown n) h = absurd h
same_to (constant c) (hidden n) h = absurd h
same_to (shown n) (constant c) h = absurd h
same_to (shown n) (shown k) h = ap shown (eqb_yes h)
same_to (shown n) (hidden k) h = absurd h
same_to (hidden n) (constant c) h = absurd h
same_to (hidden n) (shown k) h = absurd h
same_to (hidden n) (hidden k) h = ap hidden (eqb_yes h)

pub same_iff : (t u : Term) → T (same t u) ↔ (t ≡ u)
same_iff t u = (same_to t u, λ e. subst (λ (x : Term). T (same t x)) e (same_self t))

-- ---- every element, of a list that is made of another, and by two tests

pub all_map : {X Y : Type 0} (f : Y → Bool) (g : X → Y) (l : List X) → all f (map g l) ≡ all (λ x. f (g x)) l
unfolding all
all_map f g [] = refl
all_map f g (x ∷ l) = ap (λ (b : Bool). f (g x) && b) (all_map f g l)

pub all_same : {X : Type 0} (f g : X → Bool) (l : List X) → ((x : X) → x ∈ l → f x ≡ g x) → all f l ≡ all g l
unfolding all
all_same f g [] h = refl
all_same f g (x ∷ l) h = ap₂ (λ (a b : Bool). a && b) (h x (Memᴰ.head refl)) (all_same f g l (λ y m. h y (Memᴰ.tail m)))
