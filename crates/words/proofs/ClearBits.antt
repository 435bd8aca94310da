-- A word with one bit clear, or without the bits of another, and the word of the lowest bits.
use mathlib.Core.Path.{◌≡◌, refl, sym, ◌∙◌}
use mathlib.Core.Bool.{cond}
use mathlib.Core.Logic.{◌↔◌, ◌⊎◌, inl, inr, ⊎_elim}
use Prim.Native.Nat.{ℕ, zero, suc, ◌+◌, ◌-◌, ◌*◌, ◌/◌, ◌%◌, ◌^◌, ◌≤◌, ◌<◌, min}
use native.Mathlib.Nat.{one-mul, lt_of_le_of_lt, mod-eq_of_lt, not-suc-le-zero, le_refl, le_of_suc-le-suc, pow-suc}
use native.Mathlib.Decide.{ℕ_discrete}
use native.Mathlib.Omega.{arith}
use lib.Bits.{bit_and, bit_xor, differ, and_comm, and_le_l, xor_add_and, xor_lt, xor_shr, xor_step}
use lib.Pow.{pow-lt, pow_pos, pow_mono}
use mir.Syntax.{w64}
use Rattle.std.specs.Int.{bit_not}
use Rattle.std.proofs.lemmas.Nat.{and-not}
use Rattle.std.proofs.lemmas.Nat.Bits.{bit_at_not}
use Rattle.words.specs.Bits.{bit, is_set}
use Rattle.words.specs.Sets.{set_bit, clear_bit, Without}
use Rattle.words.proofs.Bits.{bit_within, bit_cases, bit_half, bit_lowest, is_set_lem, is_clear}
use Rattle.words.proofs.Masks.{bit_and_lem, bit_and_iff, bit_power_same, bit_power_other, and_power}
use Rattle.words.proofs.SetBits.{set_bit_same, set_bit_other}

-- a set bit is taken away
xor_power : (n k : ℕ) → bit n k ≡ 1 → bit_xor n (2 ^ k) ≡ n - 2 ^ k
xor_power n k e = omega (arith, xor_add_and n (2 ^ k), rw (e, one-mul) at (and_power n k))

pub clear_xor : (n k : ℕ) → bit_xor (set_bit n k) (2 ^ k) ≡ clear_bit n k
unfolding set_bit clear_bit
clear_xor n k =
    ⊎_elim (λ e. let s = xor_power (set_bit n k) k (set_bit_same n k) in rw (is_clear n k e) (omega (arith, rw (is_clear n k e) at s)))
    (λ e. rw (is_set_lem n k e) (xor_power n k e)) (bit_cases n k)

-- 1 << n, in a word of w bits
pub one_shifted : (w n : ℕ) → n < w → 1 * 2 ^ n % 2 ^ w ≡ 2 ^ n
one_shifted w n h = rw (one-mul, mod-eq_of_lt (pow-lt h))

-- n & !(1 << k)
pub clear_not : (n k : ℕ) → k < 64 → n < 2 ^ 64 → bit_and n (bit_not w64 (1 * 2 ^ k % 2 ^ 64)) ≡ clear_bit n k
unfolding clear_bit
clear_not n k h p = rw (one_shifted 64 k h) (go (bit_cases n k))
  where
    both : bit_and n (bit_not w64 (2 ^ k)) + bit_and n (2 ^ k) ≡ n
    both = omega (arith, and-not 64 (2 ^ k) n (pow-lt h) p, and_comm n (bit_not w64 (2 ^ k)), and_comm n (2 ^ k))

    go : (bit n k ≡ 0) ⊎ (bit n k ≡ 1) → bit_and n (bit_not w64 (2 ^ k)) ≡ cond (is_set n k) (n - 2 ^ k) n
    go (inl e) = rw (is_clear n k e) (omega (arith, both, rw e at (and_power n k)))
    go (inr e) = rw (is_set_lem n k e) (omega (arith, both, rw e at (and_power n k)))

-- ---- its bits

differ_none : (x : ℕ) → differ x 0 ≡ x
differ_none zero = refl
differ_none (suc x) = refl

bit_xor_lem : (a b k : ℕ) → bit (bit_xor a b) k ≡ differ (bit a k) (bit b k)
bit_xor_lem a b k = rw xor_shr (go (bit_cases a k) (bit_cases b k))
  where
    go : (bit a k ≡ 0) ⊎ (bit a k ≡ 1) → (bit b k ≡ 0) ⊎ (bit b k ≡ 1) → bit_xor (a / 2 ^ k) (b / 2 ^ k) % 2 ≡ differ (bit a k) (bit b k)
    go (inl e) (inl f) = rw (e, f) (omega (arith, rw (e, f) at (xor_step (a / 2 ^ k) (b / 2 ^ k))))
    go (inl e) (inr f) = rw (e, f) (omega (arith, rw (e, f) at (xor_step (a / 2 ^ k) (b / 2 ^ k))))
    go (inr e) (inl f) = rw (e, f) (omega (arith, rw (e, f) at (xor_step (a / 2 ^ k) (b / 2 ^ k))))
    go (inr e) (inr f) = rw (e, f) (omega (arith, rw (e, f) at (xor_step (a / 2 ^ k) (b / 2 ^ k))))

pub clear_bit_same : (n k : ℕ) → bit (clear_bit n k) k ≡ 0
clear_bit_same n k = rw (← clear_xor, bit_xor_lem, set_bit_same, bit_power_same)

pub clear_bit_other : (n k j : ℕ) → (j ≡ k → ⊥) → bit (clear_bit n k) j ≡ bit n j
clear_bit_other n k j f = rw (← clear_xor, bit_xor_lem, set_bit_other n k j f, bit_power_other k j f, differ_none)

-- the bits that are set, but for bit k
pub clear_bit_iff : (n k j : ℕ) → (bit (clear_bit n k) j ≡ 1) ↔ ((bit n j ≡ 1) × (j ≡ k → ⊥))
clear_bit_iff n k j = go (ℕ_discrete j k)
  where
    go : Dec (j ≡ k) → (bit (clear_bit n k) j ≡ 1) ↔ ((bit n j ≡ 1) × (j ≡ k → ⊥))
    go (yes e) = (λ b. absurd (omega (arith, clear_bit_same n k, rw e at b)), λ r. absurd (r.1 e))
    go (no f) = let o = clear_bit_other n k j f in (λ b. (sym o ∙ b, f), λ r. o ∙ r.0)

pub clear_bit_le : (n k : ℕ) → clear_bit n k ≤ n
unfolding clear_bit
clear_bit_le n k = ⊎_elim (λ e. rw (is_clear n k e) (le_refl n)) (λ e. rw (is_set_lem n k e) (omega arith)) (bit_cases n k)

-- ---- the bits that another word lacks

pub without_xor : (a b : ℕ) → Without a b (bit_xor a (bit_and a b))
without_xor a b = record {
  bits = λ k. rw (bit_xor_lem a (bit_and a b) k, bit_and_lem a b k) (go (bit a k) (bit b k) (bit_cases a k) (bit_cases b k));
  below = λ w h. xor_lt w a (bit_and a b) h (lt_of_le_of_lt (and_le_l a b) h);
}
  where
    go : (x y : ℕ) → (x ≡ 0) ⊎ (x ≡ 1) → (y ≡ 0) ⊎ (y ≡ 1) → (differ x (min x y) ≡ 1) ↔ ((x ≡ 1) × (y ≡ 0))
    go x y (inl e) (inl f) = rw (e, f) (λ q. absurd (omega arith), λ r. absurd (omega (arith, r.0)))
    go x y (inl e) (inr f) = rw (e, f) (λ q. absurd (omega arith), λ r. absurd (omega (arith, r.0)))
    go x y (inr e) (inl f) = rw (e, f) (λ q. (refl, refl), λ r. refl)
    go x y (inr e) (inr f) = rw (e, f) (λ q. absurd (omega arith), λ r. absurd (omega (arith, r.1)))

-- a & !b
pub without_not : (a b : ℕ) → a < 2 ^ 64 → b < 2 ^ 64 → Without a b (bit_and a (bit_not w64 b))
without_not a b p q = record {
  bits = λ k. (
    λ e.
        let r = (bit_and_iff a (bit_not w64 b) k).0 e in
        (r.0, omega (arith, r.1, bit_at_not w64 b k q (bit_within 64 k p r.0))),
    λ r. (bit_and_iff a (bit_not w64 b) k).1 (r.0, omega (arith, r.1, bit_at_not w64 b k q (bit_within 64 k p r.0))),
  );
  below = λ w h. lt_of_le_of_lt (and_le_l a (bit_not w64 b)) h;
}

-- ---- the lowest bits

pub low_bits_set : (n k : ℕ) → k < n → bit (2 ^ n - 1) k ≡ 1
low_bits_set zero k h = absurd (not-suc-le-zero h)
low_bits_set (suc n) zero h = bit_lowest (2 ^ suc n - 1) ∙ omega (arith, pow-suc 2 n, pow_pos n)
low_bits_set (suc n) (suc k) h =
    let half : (2 ^ suc n - 1) / 2 ≡ 2 ^ n - 1 = omega (arith, pow-suc 2 n, pow_pos n) in
    sym (bit_half (2 ^ suc n - 1) k) ∙ rw half (low_bits_set n k (le_of_suc-le-suc h))

pub low_bits_below : (n w : ℕ) → n ≤ w → 2 ^ n - 1 < 2 ^ w
low_bits_below n w h = omega (arith, pow_pos n, pow_mono {i = n} h)
