-- The union of the words of a set: of those that a function gives for the bits of a word.
use mathlib.Core.Path.{◌≡◌, refl, sym, subst}
use mathlib.Core.Logic.{◌↔◌, inl, inr, ⊎_elim}
use Prim.Native.Nat.{ℕ}
use native.Mathlib.Omega.{arith}
use lib.Bits.{bit_or}
use Rattle.words.specs.Bits.{bit}
use Rattle.words.specs.Sets.{set_bit}
use Rattle.words.proofs.Bits.{bit_zero}
use Rattle.words.proofs.SetBits.{set_bit_iff}
use Rattle.words.proofs.Masks.{bit_or_iff}

-- bit i is set exactly when it is in the word of some k of the set
pub record Union (f : ℕ → ℕ) (set u : ℕ) : Type 0 where
  pub bits : (i : ℕ) → (bit u i ≡ 1) ↔ ((k : ℕ) × (bit set k ≡ 1) × (bit (f k) i ≡ 1))

module _ (f : ℕ → ℕ) where
  pub union_none : Union f 0 0
  union_none =
      record { bits = λ i. (λ e. absurd (omega (arith, bit_zero i, e)), λ r. absurd (omega (arith, bit_zero r.0, r.1))) }

  pub union_more : {set u : ℕ} (k : ℕ) → Union f set u → Union f (set_bit set k) (bit_or u (f k))
  union_more {set} {u} k s = record {
    bits = λ i.
        let both = bit_or_iff u (f k) i in (
          λ e.
              ⊎_elim (λ b. let (j, m, h) = (s.bits i).0 b in (j, (set_bit_iff set k j).1 (inl m), h))
              (λ b. (k, (set_bit_iff set k k).1 (inr refl), b)) (both.0 e),
          λ r.
              both.1 (⊎_elim (λ m. inl ((s.bits i).1 (r.0, m, r.2)))
              (λ e. inr (subst (λ (j : ℕ). bit (f j) i ≡ 1) (sym e) r.2)) ((set_bit_iff set k r.0).0 r.1)),
        );
  }
