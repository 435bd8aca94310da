-- A word a of m bits with a word b above it: a + 2 ^ m * b.
use mathlib.Core.Path.{◌≡◌, sym, ◌∙◌}
use Prim.Native.Nat.{ℕ, ◌+◌, ◌*◌, ◌/◌, ◌%◌, ◌^◌, ◌<◌, ◌≤◌}
use native.Mathlib.Nat.{zero-add, add_comm, mul_comm, add-mul-mod_self_left, mod-eq_of_lt, add-mul-div_left, div-eq_of_lt}
use lib.Arith.{digits_lt}
use lib.Bits.{bit_or, or_shifted_r}
use lib.Pow.{pow_pos, pow-add, shr-shr, shl_exact}
use Rattle.words.specs.Bits.{bit}
use Rattle.words.proofs.Bits.{bit_mod}

module _ {a : ℕ} (m b : ℕ) (small : a < 2 ^ m) where
  pub low_part : (a + 2 ^ m * b) % 2 ^ m ≡ a
  low_part = add-mul-mod_self_left a (2 ^ m) b ∙ mod-eq_of_lt small

  pub high_part : (a + 2 ^ m * b) / 2 ^ m ≡ b
  high_part = add-mul-div_left a b (pow_pos m) ∙ rw (div-eq_of_lt small, zero-add)

  -- the bits below m
  pub bit_below : (k : ℕ) → k < m → bit (a + 2 ^ m * b) k ≡ bit a k
  bit_below k h = sym (bit_mod (a + 2 ^ m * b) m k h) ∙ rw low_part

  -- the bits from m on
  pub bit_above : (k : ℕ) → bit (a + 2 ^ m * b) (m + k) ≡ bit b k
  bit_above k = rw (← shr-shr, high_part)

  pub parts_below : (n : ℕ) → b < 2 ^ n → a + 2 ^ m * b < 2 ^ (m + n)
  parts_below n h = rw (pow-add, add_comm, mul_comm (2 ^ m) b, mul_comm (2 ^ m) (2 ^ n)) (digits_lt h small)

-- the two parts put together by a shift and an or, in a word of w bits
pub or_parts : {a b : ℕ} (m n w : ℕ) → a < 2 ^ m → b < 2 ^ n → n + m ≤ w
    → bit_or a (b * 2 ^ m % 2 ^ w) ≡ a + 2 ^ m * b
or_parts {a} {b} m n w small large fits =
    rw (shl_exact n m w large fits, or_shifted_r b m a small, add_comm (b * 2 ^ m) a, mul_comm b (2 ^ m))
