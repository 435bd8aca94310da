-- A word with one bit set.
use mathlib.Core.Path.{◌≡◌, sym, ◌∙◌}
use mathlib.Core.Logic.{◌↔◌, ◌⊎◌, inl, inr, ⊎_elim}
use Prim.Native.Nat.{ℕ, ◌+◌, ◌*◌, ◌%◌, ◌^◌, ◌<◌}
use native.Mathlib.Nat.{one-mul, zero-mul, max-zero, mod-eq_of_lt}
use native.Mathlib.Decide.{ℕ_discrete}
use native.Mathlib.Omega.{arith}
use lib.Bits.{bit_or, or_disjoint, or_add_and, or_lt}
use lib.Pow.{pow-lt}
use Rattle.words.specs.Bits.{bit}
use Rattle.words.specs.Sets.{set_bit}
use Rattle.words.proofs.Bits.{bit_le_one, bit_cases, is_set_lem, is_clear}
use Rattle.words.proofs.Masks.{bit_or_lem, bit_power_same, bit_power_other, and_power}

pub or_power : (n k : ℕ) → bit_or n (2 ^ k) ≡ set_bit n k
unfolding set_bit
or_power n k =
    ⊎_elim (λ e. rw (is_clear n k e) (or_disjoint n (2 ^ k) (rw (e, zero-mul) at (and_power n k))))
    (λ e. rw (is_set_lem n k e) (omega (arith, or_add_and n (2 ^ k), rw (e, one-mul) at (and_power n k)))) (bit_cases n k)

-- n | (1 << k), in a word of w bits
pub or_shifted_one : (w n k : ℕ) → k < w → bit_or n (1 * 2 ^ k % 2 ^ w) ≡ set_bit n k
or_shifted_one w n k h = rw (one-mul, mod-eq_of_lt (pow-lt h)) (or_power n k)

pub set_bit_same : (n k : ℕ) → bit (set_bit n k) k ≡ 1
set_bit_same n k = rw (← or_power, bit_or_lem, bit_power_same) (omega (arith, bit_le_one n k))

pub set_bit_other : (n k j : ℕ) → (j ≡ k → ⊥) → bit (set_bit n k) j ≡ bit n j
set_bit_other n k j f = rw (← or_power, bit_or_lem, bit_power_other k j f, max-zero)

-- the bits that were set, and bit k
pub set_bit_iff : (n k j : ℕ) → (bit (set_bit n k) j ≡ 1) ↔ ((bit n j ≡ 1) ⊎ (k ≡ j))
set_bit_iff n k j = by_place (ℕ_discrete j k)
  where
    by_place : Dec (j ≡ k) → (bit (set_bit n k) j ≡ 1) ↔ ((bit n j ≡ 1) ⊎ (k ≡ j))
    by_place (yes e) = (λ b. inr (sym e), λ s. rw e (set_bit_same n k))
    by_place (no f) =
        let o = set_bit_other n k j f in
        (λ b. inl (sym o ∙ b), ⊎_elim (λ b. o ∙ b) (λ e. absurd (f (sym e))))

pub set_bit_below : (w n k : ℕ) → n < 2 ^ w → k < w → set_bit n k < 2 ^ w
set_bit_below w n k h l = rw (← or_power) (or_lt w n (2 ^ k) h (pow-lt l))

-- a clear bit is added
pub set_bit_adds : (n k : ℕ) → bit n k ≡ 0 → set_bit n k ≡ n + 2 ^ k
unfolding set_bit
set_bit_adds n k e = rw (is_clear n k e)
