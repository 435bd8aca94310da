-- The order of labels is an order of words: each word is at or below itself, and what is at or below a word is at or below those above it.
use mathlib.Core.Path.{◌≡◌, refl, sym, ap, ◌∙◌}
use mathlib.Core.Logic.{◌⊎◌, inl, inr, ⊎_elim}
use mathlib.Core.Bool.{true}
use Prim.Native.Nat.{ℕ, ◌/◌, ◌^◌, ◌<◌}
use native.Mathlib.Omega.{arith}
use Rattle.words.specs.Bits.{bit, half_bits}
use Rattle.words.proofs.Bits.{bit_cases, bit_zero, bits_ext}
use Rattle.label_order.specs.Order.{at_or_below}
use Rattle.label_order.proofs.Halves.{Includes, below_iff}

pub below_self : (x : ℕ) → at_or_below x x ≡ true
below_self x = (below_iff x x).1 (inr (record { table = refl; views = λ k l b. b }))

-- a word of 64 bits without a bit in its high half names a table alone
no_bits : (z : ℕ) → z < 2 ^ 64 → ((k : ℕ) → k < half_bits → bit (z / 2 ^ half_bits) k ≡ 1 → ⊥) → z / 2 ^ half_bits ≡ 0
no_bits z small none =
    bits_ext half_bits (z / 2 ^ half_bits) 0 (omega arith) (omega arith)
    (λ k l. ⊎_elim (λ e. e ∙ sym (bit_zero k)) (λ e. absurd (none k l e)) (bit_cases (z / 2 ^ half_bits) k))

pub below_trans : (x y z : ℕ) → z < 2 ^ 64 → at_or_below x y ≡ true → at_or_below y z ≡ true → at_or_below x z ≡ true
below_trans x y z small p q =
    (below_iff x z).1 (⊎_elim (λ e. inl e) (λ i. ⊎_elim (bare i) (λ j. inr (both j i)) ((below_iff x y).0 p)) ((below_iff y z).0 q))
  where
    bare : Includes y z → y / 2 ^ half_bits ≡ 0 → (z / 2 ^ half_bits ≡ 0) ⊎ Includes x z
    bare i e = inl (no_bits z small (λ k l b. omega (arith, bit_zero k, sym (ap (λ (n : ℕ). bit n k) e) ∙ i.views k l b)))

    both : Includes x y → Includes y z → Includes x z
    both j i = record { table = j.table ∙ i.table; views = λ k l b. j.views k l (i.views k l b) }
