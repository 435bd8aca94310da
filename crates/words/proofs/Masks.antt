-- Bits of a conjunction, of a disjunction and of a power of two.
use mathlib.Core.Path.{◌≡◌, refl, sym, ap, ◌∙◌}
use mathlib.Core.Logic.{◌↔◌, ◌⊎◌, inl, inr, ⊎_elim}
use Prim.Native.Nat.{ℕ, zero, suc, ◌*◌, ◌/◌, ◌%◌, ◌^◌, min, max}
use native.Mathlib.Nat.{add-zero, pow-suc, mul-one, mul_assoc, min-zero}
use native.Mathlib.Omega.{arith}
use lib.Bits.{bit_and, bit_or, and_step, or_step, and_shr, or_shr, and_mask}
use lib.Pow.{pow-lt}
use Rattle.words.specs.Bits.{bit}
use Rattle.words.proofs.Bits.{bit_le_one, bit_cases, bit_half, bit_lowest, bit_beyond}

pub bit_and_lem : (a b k : ℕ) → bit (bit_and a b) k ≡ min (bit a k) (bit b k)
bit_and_lem a b k = rw and_shr (omega (arith, and_step (a / 2 ^ k) (b / 2 ^ k)))

pub bit_and_iff : (a b k : ℕ) → (bit (bit_and a b) k ≡ 1) ↔ ((bit a k ≡ 1) × (bit b k ≡ 1))
bit_and_iff a b k =
    (λ e. omega (arith, bit_and_lem a b k, bit_le_one a k, bit_le_one b k), λ r. omega (arith, bit_and_lem a b k))

pub bit_or_lem : (a b k : ℕ) → bit (bit_or a b) k ≡ max (bit a k) (bit b k)
bit_or_lem a b k = rw or_shr (omega (arith, or_step (a / 2 ^ k) (b / 2 ^ k)))

pub bit_or_iff : (a b k : ℕ) → (bit (bit_or a b) k ≡ 1) ↔ ((bit a k ≡ 1) ⊎ (bit b k ≡ 1))
bit_or_iff a b k =
    let r = bit_or_lem a b k in (
      λ e. ⊎_elim (λ z. inr (omega (arith, r))) inl (bit_cases a k),
      ⊎_elim (λ o. omega (arith, r, bit_le_one b k)) (λ o. omega (arith, r, bit_le_one a k)),
    )

-- ---- a power of two has one bit

power_half : (k : ℕ) → 2 ^ suc k / 2 ≡ 2 ^ k
power_half k = omega (arith, pow-suc 2 k)

power_even : (k : ℕ) → 2 ^ suc k % 2 ≡ 0
power_even k = omega (arith, pow-suc 2 k)

pub bit_power_same : (k : ℕ) → bit (2 ^ k) k ≡ 1
bit_power_same zero = refl
bit_power_same (suc k) = sym (bit_half (2 ^ suc k) k) ∙ rw power_half (bit_power_same k)

pub bit_power_other : (k j : ℕ) → (j ≡ k → ⊥) → bit (2 ^ k) j ≡ 0
bit_power_other zero zero f = absurd (f refl)
bit_power_other zero (suc j) f = bit_beyond (suc j) (pow-lt {i = zero} (omega arith))
bit_power_other (suc k) zero f = bit_lowest (2 ^ suc k) ∙ power_even k
bit_power_other (suc k) (suc j) f =
    sym (bit_half (2 ^ suc k) j) ∙ rw power_half (bit_power_other k j (λ e. f (ap suc e)))

pub and_power : (n k : ℕ) → bit_and n (2 ^ k) ≡ bit n k * 2 ^ k
and_power n zero = and_mask n 1 ∙ sym (mul-one (bit n 0) ∙ bit_lowest n)
and_power n (suc k) =
    and_step n (2 ^ suc k)
    ∙ rw (power_half, power_even, min-zero, add-zero, and_power (n / 2) k, bit_half, pow-suc 2 k, mul_assoc)
