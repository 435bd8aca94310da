-- The laws of words made by tests: their bits, their size, one element more, two tests of the same elements, and a word as the tests
-- of its own bits.
use mathlib.Core.Path.{◌≡◌, refl, sym, ap, ap₂, subst, ◌∙◌}
use mathlib.Core.Logic.{◌↔◌, ⊎_elim}
use mathlib.Core.Bool.{Bool, true, false, cond, ◌&&◌}
use mathlib.Core.Option.{Option, none, some, some-injective}
use mathlib.Core.List.{List, [], ◌∷◌, ◌++◌, map}
use Prim.Native.Nat.{ℕ, zero, suc, ◌+◌, ◌*◌, ◌^◌, ◌/◌, ◌-◌, ◌<◌, suc-le-suc}
use native.Mathlib.Nat.{lt_of_le_of_lt, le_of_suc-le-suc, not-suc-le-zero, pow-suc, mul_assoc}
use native.Mathlib.Omega.{arith}
use lib.Bits.{bit_and, and_le_l}
use lib.Pow.{pow_pos}
use borrow.Author.Tests.{eqb-true}
use lib.Dec.{T}
use mir.Facts.{and_yes, yes_and}
use lib.ListN.{length, get_or, get_elem?}
use Rattle.words.specs.Bits.{bit, is_set}
use Rattle.words.specs.Sets.{set_bit}
use Rattle.words.specs.TestBits.{test_bits, up_from}
use Rattle.words.proofs.Bits.{bit_zero, bit_lowest, bit_half, bit_within, bit_cases, same_bits, bit_beyond, is_set_lem, is_clear}
use Rattle.words.proofs.Answers.{true_holds, holds_true, same_answer}
use Rattle.words.proofs.SetBits.{set_bit_adds}
use Rattle.words.proofs.Masks.{bit_and_iff}

no_element : {X : Type 0} {x : X} → ◌≡◌ {A = Option X} none (some x) → ⊥
no_element e = let z : ◌≡◌ {A = ℕ} 0 1 = cc in omega arith

-- ---- a test as a digit

digit_iff : (b : Bool) → ◌≡◌ {A = ℕ} (cond b 1 0) 1 ↔ T b
digit_iff true = (λ e. tt, λ h. refl)
digit_iff false = (λ e. absurd (omega (arith, e)), λ h. absurd h)

digit_small : (b : Bool) → cond b 1 0 < 2
digit_small true = omega arith
digit_small false = omega arith

tests_step : (y t m x p q : ℕ) → t ≡ m + x * p → q ≡ p * 2 → y + 2 * t ≡ y + 2 * m + x * q
tests_step y t m x p q e f =
    ap (λ (z : ℕ). y + 2 * z) e ∙ omega (arith, mul_assoc x p 2) ∙ ap (λ (z : ℕ). y + 2 * m + x * z) (sym f)

-- ---- one test

module _ {X : Type 0} (f : X → Bool) where
  -- bit k is set exactly when the list has an element at place k, and it passes
  pub tests_bit : (l : List X) (k : ℕ) → (bit (test_bits f l) k ≡ 1) ↔ ((x : X) × (get_elem? l k ≡ some x) × T (f x))
  unfolding test_bits
  tests_bit [] k = (λ h. absurd (omega (arith, bit_zero k, h)), λ r. absurd (no_element r.1))
  tests_bit (x ∷ l) zero =
      let w = cond (f x) 1 0 + 2 * test_bits f l in
      let e : bit w 0 ≡ cond (f x) 1 0 = bit_lowest w ∙ omega (arith, digit_small (f x)) in (
        λ h. (x, refl, (digit_iff (f x)).0 (sym e ∙ h)),
        λ r. e ∙ (digit_iff (f x)).1 (subst (λ (y : X). T (f y)) (sym (some-injective x r.0 r.1)) r.2),
      )
  tests_bit (x ∷ l) (suc k) =
      let w = cond (f x) 1 0 + 2 * test_bits f l in
      let half : w / 2 ≡ test_bits f l = omega (arith, digit_small (f x)) in
      let e : bit w (suc k) ≡ bit (test_bits f l) k = sym (bit_half w k) ∙ ap (λ (y : ℕ). bit y k) half in
      (λ h. (tests_bit l k).0 (sym e ∙ h), λ r. e ∙ (tests_bit l k).1 r)

  -- the test of a bit is the test of the element
  pub tests_say : (l : List X) (k : ℕ) (x : X) → get_elem? l k ≡ some x → is_set (test_bits f l) k ≡ f x
  tests_say l k x e =
      same_answer (is_set (test_bits f l) k) (f x)
      (λ s.
      let (y, h, t) = (tests_bit l k).0 (eqb-true _ _ s) in
      sym (holds_true (f x) (subst (λ (z : X). T (f z)) (some-injective y x (sym h ∙ e)) t)))
      (λ t. is_set_lem (test_bits f l) k ((tests_bit l k).1 (x, e, true_holds t)))

  pub tests_below : (l : List X) → test_bits f l < 2 ^ length l
  unfolding test_bits
  tests_below [] = omega arith
  tests_below (x ∷ l) = omega (arith, digit_small (f x), tests_below l, pow-suc 2 (length l))

  tests_added : (x : X) (m : List X) → test_bits f (m ++ x ∷ []) ≡ test_bits f m + cond (f x) 1 0 * 2 ^ length m
  unfolding test_bits
  tests_added x [] = omega (arith, digit_small (f x))
  tests_added x (y ∷ m) =
      tests_step (cond (f y) 1 0) (test_bits f (m ++ x ∷ [])) (test_bits f m) (cond (f x) 1 0) (2 ^ length m) (2 ^ suc (length m))
      (tests_added x m) (pow-suc 2 (length m))

  -- one element more, behind the others: the invariant of a loop that builds such a word
  pub tests_more : (l : List X) (x : X) → test_bits f (l ++ x ∷ []) ≡ cond (f x) (set_bit (test_bits f l) (length l)) (test_bits f l)
  tests_more l x = go (f x) (tests_added x l) where
    go : (b : Bool) → test_bits f (l ++ x ∷ []) ≡ test_bits f l + cond b 1 0 * 2 ^ length l
        → test_bits f (l ++ x ∷ []) ≡ cond b (set_bit (test_bits f l) (length l)) (test_bits f l)
    go true e = e ∙ omega arith ∙ sym (set_bit_adds (test_bits f l) (length l) (bit_beyond (length l) (tests_below l)))
    go false e = e ∙ omega arith

  -- every element passes
  pub tests_all : (l : List X) → ((x : X) → f x ≡ true) → test_bits f l ≡ 2 ^ length l - 1
  unfolding test_bits
  tests_all [] h = omega arith
  tests_all (x ∷ l) h = rw (h x, tests_all l h) (omega (arith, pow-suc 2 (length l), pow_pos (length l)))

  -- a word of the length's bits is the word of tests when each bit says whether the element there passes
  pub tests_are : (l : List X) (w : ℕ) → w < 2 ^ length l
      → ((k : ℕ) → (bit w k ≡ 1) ↔ ((x : X) × (get_elem? l k ≡ some x) × T (f x))) → w ≡ test_bits f l
  tests_are l w small each =
      same_bits (length l) w (test_bits f l) small (tests_below l)
      (λ k. (λ h. (tests_bit l k).1 ((each k).0 h), λ h. (each k).1 ((tests_bit l k).0 h)))

-- ---- two tests of the same elements

module _ {X : Type 0} (f g : X → Bool) (l : List X) where
  -- the element at a place where both words have a bit
  pub both_there : (k : ℕ) → bit (test_bits f l) k ≡ 1 → bit (test_bits g l) k ≡ 1
      → (x : X) × (get_elem? l k ≡ some x) × T (f x) × T (g x)
  both_there k a b =
      let (x, e, t) = (tests_bit f l k).0 a in
      let (y, h, u) = (tests_bit g l k).0 b in
      (x, e, t, subst (λ (z : X). T (g z)) (some-injective y x (sym h ∙ e)) u)

-- a word that says of each element whether it passes a second test: the elements that pass both are the bits that both words have
pub and_tests : {X : Type 0} (f g : X → Bool) (l : List X) (w : ℕ)
    → ((i : ℕ) (x : X) → get_elem? l i ≡ some x → (bit w i ≡ 1) ↔ T (g x)) → bit_and (test_bits f l) w ≡ test_bits (λ x. f x && g x) l
and_tests f g l w each =
    let meets = bit_and_iff (test_bits f l) w in
    let small = lt_of_le_of_lt (and_le_l (test_bits f l) w) (tests_below f l) in
    tests_are (λ x. f x && g x) l (bit_and (test_bits f l) w) small (λ k. (
      λ h.
          let (a, b) = (meets k).0 h in
          let (x, e, t) = (tests_bit f l k).0 a in (x, e, yes_and (f x) (g x) t ((each k x e).0 b)),
      λ r.
          let (t, u) = and_yes (f r.0) (g r.0) r.2 in
          (meets k).1 ((tests_bit f l k).1 (r.0, r.1, t), (each k r.0 r.1).1 u),
    ))

-- ---- the numbers from m on

pub up_from_length : (m n : ℕ) → length (up_from m n) ≡ n
unfolding up_from
up_from_length m zero = refl
up_from_length m (suc n) = ap suc (up_from_length (suc m) n)

pub from_at : (m n k x : ℕ) → get_elem? (up_from m n) k ≡ some x → x ≡ m + k
unfolding up_from
from_at m zero k x e = absurd (no_element e)
from_at m (suc n) zero x e = sym (some-injective m x e) ∙ omega arith
from_at m (suc n) (suc k) x e = from_at (suc m) n k x e ∙ omega arith

pub at_from : (m n k : ℕ) → k < n → get_elem? (up_from m n) k ≡ some (m + k)
unfolding up_from
at_from m zero k h = absurd (not-suc-le-zero h)
at_from m (suc n) zero h = ap some (omega arith)
at_from m (suc n) (suc k) h = at_from (suc m) n k (le_of_suc-le-suc h) ∙ ap some (omega arith)

pub up_from_more : (m n : ℕ) → up_from m (suc n) ≡ up_from m n ++ (m + n) ∷ []
unfolding up_from
up_from_more m zero = ap (λ (x : ℕ). x ∷ []) (omega arith)
up_from_more m (suc n) =
    ap (λ (l : List ℕ). m ∷ l) (up_from_more (suc m) n ∙ ap (λ (x : ℕ). up_from (suc m) n ++ x ∷ []) (omega arith))

-- the tests of the numbers below k, and of k: the step of a loop that builds such a word
pub next_test : (f : ℕ → Bool) (k : ℕ) {on : Bool} {word word' : ℕ} → on ≡ f k → word ≡ test_bits f (up_from 0 k)
    → word' ≡ cond on (set_bit word k) word → word' ≡ test_bits f (up_from 0 (k + 1))
next_test f k {on} {word} e is made =
    let one : k + 1 ≡ suc k = omega arith in
    let last : up_from 0 (k + 1) ≡ up_from 0 k ++ k ∷ [] =
    ap (up_from 0) one ∙ up_from_more 0 k ∙ ap (λ (x : ℕ). up_from 0 k ++ x ∷ []) (omega arith) in
    made ∙ rw (e, is, last, tests_more f (up_from 0 k) k, up_from_length)

-- what is made of each number, at a place
pub made_at : {X : Type 0} (f : ℕ → X) (m n k : ℕ) (x : X) → get_elem? (map f (up_from m n)) k ≡ some x → (k < n) × (x ≡ f (m + k))
unfolding up_from
made_at f m zero k x e = absurd (no_element e)
made_at f m (suc n) zero x e = (omega arith, sym (some-injective (f m) x e) ∙ ap f (omega arith))
made_at f m (suc n) (suc k) x e = let (h, q) = made_at f (suc m) n k x e in (suc-le-suc h, q ∙ ap f (omega arith))

pub at_made : {X : Type 0} (f : ℕ → X) (m n k : ℕ) → k < n → get_elem? (map f (up_from m n)) k ≡ some (f (m + k))
unfolding up_from
at_made f m zero k h = absurd (not-suc-le-zero h)
at_made f m (suc n) zero h = ap (λ (x : ℕ). some (f x)) (omega arith)
at_made f m (suc n) (suc k) h = at_made f (suc m) n k (le_of_suc-le-suc h) ∙ ap (λ (x : ℕ). some (f x)) (omega arith)

pub from_get : {X : Type 0} (f : ℕ → X) (d : X) (m n k : ℕ) → k < n → get_or (map f (up_from m n)) k d ≡ f (m + k)
unfolding up_from
from_get f d m zero k h = absurd (not-suc-le-zero h)
from_get f d m (suc n) zero h = ap f (omega arith)
from_get f d m (suc n) (suc k) h = from_get f d (suc m) n k (le_of_suc-le-suc h) ∙ ap f (omega arith)

-- a list of n elements, each of which is made of its place, is made of the places
pub made_of : {X : Type 0} (f : ℕ → X) (d : X) (m : ℕ) (l : List X) → ((k : ℕ) → k < length l → get_or l k d ≡ f (m + k))
    → l ≡ map f (up_from m (length l))
unfolding up_from
made_of f d m [] each = refl
made_of f d m (x ∷ l) each =
    ap₂ ◌∷◌ (each 0 (omega arith) ∙ ap f (omega arith))
    (made_of f d (suc m) l (λ k h. each (suc k) (suc-le-suc h) ∙ ap f (omega arith)))

-- a word is the tests of its own bits
pub tests_own : (n w : ℕ) → w < 2 ^ n → test_bits (is_set w) (up_from 0 n) ≡ w
tests_own n w h =
    let l = up_from 0 n in
    sym (tests_are (is_set w) l w (subst (λ (k : ℕ). w < 2 ^ k) (sym (up_from_length 0 n)) h) (λ k. (
      λ a. (k, at_from 0 n k (bit_within n k h a) ∙ ap some (omega arith), subst T (sym (is_set_lem w k a)) tt),
      λ r. let same : r.0 ≡ k = from_at 0 n k r.0 r.1 ∙ omega arith in
          ⊎_elim (λ z. absurd (subst T (is_clear w r.0 z) r.2)) (λ z. ap (bit w) (sym same) ∙ z) (bit_cases w r.0),
    )))
