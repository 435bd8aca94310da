-- What the tests on words say of their bits, and the masks that compute them.
use mathlib.Core.Path.{◌≡◌, refl, sym, ap, ◌∙◌}
use mathlib.Core.Logic.{◌↔◌, ◌⊎◌, inl, inr, ⊎_elim}
use mathlib.Core.Bool.{Bool, true, false, not, ◌&&◌, ◌||◌, and-eq-true_iff, false≢true}
use Prim.Native.Nat.{ℕ, zero, suc, ◌/◌, ◌^◌, ◌<◌}
use native.Mathlib.Nat.{le_refl, le_step, le_of_suc-le-suc, lt_of_le_of_lt, eq-or-lt_of_le, not-suc-le-zero}
use native.Mathlib.Omega.{arith}
use borrow.Author.Tests.{eqb-true, eqb-false, eq-eqb, ne_eqb, not-true}
use lib.Bits.{bit_and, and_le_l, and_le_r, and_mask}
use lib.Count.{count_trailing_zeros}
use lib.Dec.{eqb}
use Rattle.words.specs.Bits.{bit, is_set}
use Rattle.words.specs.Sets.{meet, include}
use Rattle.words.proofs.Bits.{bit_cases, bit_zero, bits_ext, is_set_lem}
use Rattle.words.proofs.Masks.{bit_and_lem, bit_and_iff}
use Rattle.words.proofs.Lowest.{trailing_least}

-- ---- on truth values

or_iff : (a b : Bool) → ((a || b) ≡ true) ↔ ((a ≡ true) ⊎ (b ≡ true))
or_iff true b = (λ e. inl refl, λ s. refl)
or_iff false b = (λ e. inr e, ⊎_elim (λ e. absurd (false≢true e)) (λ e. e))

implies_iff : (a b : Bool) → ((not a || b) ≡ true) ↔ (a ≡ true → b ≡ true)
implies_iff true b = (λ e t. e, λ f. f refl)
implies_iff false b = (λ e t. absurd (false≢true t), λ f. refl)

-- two tests that are true together are equal
same_test : (a b : Bool) → (a ≡ true) ↔ (b ≡ true) → a ≡ b
same_test true b h = sym (h.0 refl)
same_test false true h = h.1 refl
same_test false false h = refl

-- ---- a bit

-- (n >> k) & 1 == 1
pub and_one : (n k : ℕ) → eqb (bit_and (n / 2 ^ k) 1) 1 ≡ is_set n k
and_one n k = rw (and_mask (n / 2 ^ k) 1)

-- ---- a bit in common

module _ (a b : ℕ) where
  meet_to : (w : ℕ) → meet w a b ≡ true → (k : ℕ) × (k < w) × (bit a k ≡ 1) × (bit b k ≡ 1)
  unfolding meet
  meet_to zero e = absurd (false≢true e)
  meet_to (suc w) e =
      ⊎_elim
      (λ t.
      let r = (and-eq-true_iff (is_set a w) (is_set b w)).0 t in
      (w, le_refl (suc w), eqb-true (bit a w) 1 r.0, eqb-true (bit b w) 1 r.1))
      (λ t. let r = meet_to w t in (r.0, le_step r.1, r.2, r.3))
      ((or_iff (is_set a w && is_set b w) (meet w a b)).0 e)

  meet_from : (w k : ℕ) → k < w → bit a k ≡ 1 → bit b k ≡ 1 → meet w a b ≡ true
  unfolding meet
  meet_from zero k h p q = absurd (not-suc-le-zero h)
  meet_from (suc w) k h p q =
      (or_iff (is_set a w && is_set b w) (meet w a b)).1
      (⊎_elim
      (λ e. inl ((and-eq-true_iff (is_set a w) (is_set b w)).1 (is_set_lem a w (rw e at p), is_set_lem b w (rw e at q))))
      (λ l. inr (meet_from w k l p q)) (eq-or-lt_of_le (le_of_suc-le-suc h)))

  -- a & b is not 0
  some_common : (w : ℕ) → a < 2 ^ w → not (eqb (bit_and a b) 0) ≡ true → meet w a b ≡ true
  some_common w small t =
      let some : 0 < bit_and a b = omega (arith, eqb-false (bit_and a b) 0 (not-true _ t)) in
      let k = count_trailing_zeros w (bit_and a b) in
      let found = trailing_least w (bit_and a b) some (lt_of_le_of_lt (and_le_l a b) small) in
      let both = (bit_and_iff a b k).0 found.set in meet_from w k found.below both.0 both.1

  common_some : (k : ℕ) → bit a k ≡ 1 → bit b k ≡ 1 → not (eqb (bit_and a b) 0) ≡ true
  common_some k p q =
      ap not (ne_eqb (bit_and a b) 0 (λ e.
      omega (arith, (bit_and_iff a b k).1 (p, q), ap (λ (x : ℕ). bit x k) e, bit_zero k)))

pub meet_iff : (w a b : ℕ) → (meet w a b ≡ true) ↔ ((k : ℕ) × (k < w) × (bit a k ≡ 1) × (bit b k ≡ 1))
meet_iff w a b = (meet_to a b w, λ r. meet_from a b w r.0 r.1 r.2 r.3)

-- a & b != 0
pub and_meet : (w a b : ℕ) → a < 2 ^ w → not (eqb (bit_and a b) 0) ≡ meet w a b
and_meet w a b small =
    same_test (not (eqb (bit_and a b) 0)) (meet w a b)
    (some_common a b w small, λ t. let r = meet_to a b w t in common_some a b r.0 r.2 r.3)

-- ---- inclusion

module _ (a b : ℕ) where
  include_to : (w : ℕ) → include w a b ≡ true → (k : ℕ) → k < w → bit b k ≡ 1 → bit a k ≡ 1
  unfolding include
  include_to zero e k h p = absurd (not-suc-le-zero h)
  include_to (suc w) e k h p =
      let r = (and-eq-true_iff (not (is_set b w) || is_set a w) (include w a b)).0 e in
      ⊎_elim
      (λ q. rw q (eqb-true (bit a w) 1 ((implies_iff (is_set b w) (is_set a w)).0 r.0 (is_set_lem b w (rw q at p)))))
      (λ l. include_to w r.1 k l p) (eq-or-lt_of_le (le_of_suc-le-suc h))

  include_from : (w : ℕ) → ((k : ℕ) → k < w → bit b k ≡ 1 → bit a k ≡ 1) → include w a b ≡ true
  unfolding include
  include_from zero f = refl
  include_from (suc w) f =
      (and-eq-true_iff (not (is_set b w) || is_set a w) (include w a b)).1 (
        (implies_iff (is_set b w) (is_set a w)).1 (λ t. is_set_lem a w (f w (le_refl (suc w)) (eqb-true (bit b w) 1 t))),
        include_from w (λ k h. f k (le_step h)),
      )

  -- a & b is b
  kept_bit : bit_and a b ≡ b → (k : ℕ) → bit b k ≡ 1 → bit a k ≡ 1
  kept_bit e k p = ((bit_and_iff a b k).0 (ap (λ (x : ℕ). bit x k) e ∙ p)).0

  bits_kept : (w : ℕ) → b < 2 ^ w → ((k : ℕ) → k < w → bit b k ≡ 1 → bit a k ≡ 1) → bit_and a b ≡ b
  bits_kept w small f =
      bits_ext w (bit_and a b) b (lt_of_le_of_lt (and_le_r a b) small) small (λ k h.
      ⊎_elim (λ e. omega (arith, bit_and_lem a b k, e)) (λ e. omega (arith, bit_and_lem a b k, e, f k h e)) (bit_cases b k))

pub include_iff : (w a b : ℕ) → (include w a b ≡ true) ↔ ((k : ℕ) → k < w → bit b k ≡ 1 → bit a k ≡ 1)
include_iff w a b = (include_to a b w, include_from a b w)

-- a & b == b
pub and_include : (w a b : ℕ) → b < 2 ^ w → eqb (bit_and a b) b ≡ include w a b
and_include w a b small =
    same_test (eqb (bit_and a b) b) (include w a b) (
      λ t. include_from a b w (λ k h. kept_bit a b (eqb-true (bit_and a b) b t) k),
      λ t. eq-eqb (bit_and a b) b (bits_kept a b w small (include_to a b w t)),
    )
