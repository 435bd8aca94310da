-- The targets of one line among the pairs of all lines: a word of lines, shifted to that line's place.
use mathlib.Core.Path.{◌≡◌, sym, ap, ◌∙◌}
use mathlib.Core.Logic.{◌↔◌}
use Prim.Native.Nat.{ℕ, ◌+◌, ◌*◌, ◌-◌, ◌/◌, ◌%◌, ◌^◌, ◌<◌}
use native.Mathlib.Decide.{dec_lt}
use native.Mathlib.Nat.{zero-add, mul_comm, mod-lt}
use native.Mathlib.Omega.{arith}
use lib.Bits.{bit_and, and_mask}
use lib.Pow.{pow_pos, shr-shr}
use Rattle.words.specs.Bits.{bit}
use Rattle.words.proofs.Bits.{bit_zero, bit_mod, bit_within}
use Rattle.words.proofs.Parts.{bit_below, bit_above}
use Rattle.model.specs.Limits.{most_lines}
use Rattle.reduce.specs.PairNumbers.{pair_of, line_of, target_of}
use Rattle.reduce.specs.Links.{LineBits}

-- the bits of a number shifted up
shifted_low : (x m k : ℕ) → k < m → bit (x * 2 ^ m) k ≡ 0
shifted_low x m k l = rw (mul_comm x (2 ^ m), ← zero-add (2 ^ m * x)) (bit_below {a = 0} m x (pow_pos m) k l ∙ bit_zero k)

shifted_high : (x m k : ℕ) → bit (x * 2 ^ m) (m + k) ≡ bit x k
shifted_high x m k = rw (mul_comm x (2 ^ m), ← zero-add (2 ^ m * x)) (bit_above {a = 0} m x (pow_pos m) k)

module _ (x i : ℕ) (lines : LineBits x) (l : i < most_lines) (k : ℕ) where
  pub row_bits : (bit (x * 2 ^ (i * most_lines) % 2 ^ 64) k ≡ 1) ↔ ((line_of k ≡ i) × (bit x (target_of k) ≡ 1))
  row_bits = (λ e. to e (dec_lt k (i * most_lines)), λ r. from r.0 r.1)
    where
      to : bit (x * 2 ^ (i * most_lines) % 2 ^ 64) k ≡ 1 → Dec (k < i * most_lines) → (line_of k ≡ i) × (bit x (target_of k) ≡ 1)
      to e (yes h) = absurd (omega (arith, bit_mod (x * 2 ^ (i * most_lines)) 64 k (omega arith), shifted_low x (i * most_lines) k h))
      to e (no h) =
          let n = x * 2 ^ (i * most_lines) in
          let j = k - i * most_lines in
          let small : k < 64 = bit_within 64 k (mod-lt n (pow_pos 64)) e in
          let place : k ≡ i * most_lines + j = omega arith in
          let set : bit x j ≡ 1 =
          sym (shifted_high x (i * most_lines) j) ∙ sym (ap (λ (y : ℕ). bit n y) place) ∙ sym (bit_mod n 64 k small) ∙ e in
          let below : j < most_lines = lines j set in
          let target : target_of k ≡ j = omega arith in
          (omega arith, rw target set)

      from : line_of k ≡ i → bit x (target_of k) ≡ 1 → bit (x * 2 ^ (i * most_lines) % 2 ^ 64) k ≡ 1
      from e h =
          let n = x * 2 ^ (i * most_lines) in
          let place : k ≡ i * most_lines + target_of k = omega arith in
          bit_mod n 64 k (omega arith) ∙ ap (λ (y : ℕ). bit n y) place ∙ shifted_high x (i * most_lines) (target_of k) ∙ h

-- the targets of line i among the pairs
pub row_of_bits : (w i j : ℕ) → j < most_lines → bit (bit_and (w / 2 ^ (i * most_lines)) (2 ^ most_lines - 1)) j ≡ bit w (pair_of i j)
row_of_bits w i j h =
    rw (and_mask (w / 2 ^ (i * most_lines)) most_lines) (bit_mod (w / 2 ^ (i * most_lines)) most_lines j h ∙ rw shr-shr)
