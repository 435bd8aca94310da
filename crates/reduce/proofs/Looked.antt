-- What holds of the bits of a word, looked at one by one.
use mathlib.Core.Path.{◌≡◌, sym, subst, ◌∙◌}
use mathlib.Core.Logic.{◌↔◌}
use Prim.Native.Nat.{ℕ}
use native.Mathlib.Decide.{ℕ_discrete}
use native.Mathlib.Omega.{arith}
use Rattle.words.specs.Bits.{bit}
use Rattle.words.specs.Sets.{clear_bit, Least, LeastDropped}
use Rattle.words.proofs.Bits.{bit_zero}
use Rattle.words.proofs.ClearBits.{clear_bit_same, clear_bit_other}
use Rattle.words.proofs.Lowest.{dropped_same, dropped_other}
use Rattle.words.proofs.Marks.{left_before}

-- it holds of the bits of c that are no longer in `rest`
pub record Looked (P : ℕ → Type 0) (c rest : ℕ) : Type 0 where
  pub some : (b : ℕ) → bit rest b ≡ 1 → bit c b ≡ 1
  pub done : (b : ℕ) → bit c b ≡ 1 → bit rest b ≡ 0 → P b

module _ {P : ℕ → Type 0} {c : ℕ} where
  pub looked_none : Looked P c c
  looked_none = record { some = λ b e. e; done = λ b e z. absurd (omega arith) }

  pub looked_more : {rest p next : ℕ} → Looked P c rest → Least 64 rest p → LeastDropped 64 rest next → P p → Looked P c next
  looked_more {rest} {p} {next} k l d right = record {
    some = λ b e. k.some b (left_before b l d e);
    done = λ b e z. go b e z (ℕ_discrete b p);
  }
    where
      go : (b : ℕ) → bit c b ≡ 1 → bit next b ≡ 0 → Dec (b ≡ p) → P b
      go b e z (yes x) = subst P (sym x) right
      go b e z (no f) = k.done b e (sym (dropped_other b d l f) ∙ z)

  pub looked_all : Looked P c 0 → (b : ℕ) → bit c b ≡ 1 → P b
  looked_all k b e = k.done b e (bit_zero b)

-- m has the bits of c but for those that are no longer in `rest` and of which it does not hold
pub record Sieved (P : ℕ → Type 0) (c rest m : ℕ) : Type 0 where
  pub some : (b : ℕ) → bit rest b ≡ 1 → bit c b ≡ 1
  pub done : (b : ℕ) → (bit m b ≡ 1) ↔ ((bit c b ≡ 1) × (bit rest b ≡ 0 → P b))

module _ {P : ℕ → Type 0} {c : ℕ} where
  pub sieved_none : {rest : ℕ} → ((b : ℕ) → bit rest b ≡ 1 → bit c b ≡ 1) → ((b : ℕ) → bit c b ≡ 1 → bit rest b ≡ 0 → P b)
      → Sieved P c rest c
  sieved_none f g = record { some = f; done = λ b. (λ e. (e, g b e), λ r. r.0) }

  module _ {rest p next m : ℕ} (k : Sieved P c rest m) (l : Least 64 rest p) (d : LeastDropped 64 rest next) where
    -- the other bits
    others : (b : ℕ) → (b ≡ p → ⊥) → (bit m b ≡ 1) ↔ ((bit c b ≡ 1) × (bit next b ≡ 0 → P b))
    others b f =
        let s = dropped_other b d l f in
        let r = k.done b in
        (λ e. let (x, y) = r.0 e in (x, λ z. y (sym s ∙ z)), λ h. r.1 (h.0, λ z. h.1 (s ∙ z)))

    pub sieved_kept : P p → Sieved P c next m
    sieved_kept right = record { some = λ b e. k.some b (left_before b l d e); done = λ b. go b (ℕ_discrete b p) }
      where
        here : (bit m p ≡ 1) ↔ ((bit c p ≡ 1) × (bit next p ≡ 0 → P p))
        here = (
          λ e. (k.some p l.set, λ z. right),
          λ h. (k.done p).1 (h.0, λ z. absurd (omega (arith, z, l.set))),
        )

        go : (b : ℕ) → Dec (b ≡ p) → (bit m b ≡ 1) ↔ ((bit c b ≡ 1) × (bit next b ≡ 0 → P b))
        go b (yes x) = subst (λ (b : ℕ). (bit m b ≡ 1) ↔ ((bit c b ≡ 1) × (bit next b ≡ 0 → P b))) (sym x) here
        go b (no f) = others b f

    pub sieved_out : (P p → ⊥) → Sieved P c next (clear_bit m p)
    sieved_out wrong = record { some = λ b e. k.some b (left_before b l d e); done = λ b. go b (ℕ_discrete b p) }
      where
        here : (bit (clear_bit m p) p ≡ 1) ↔ ((bit c p ≡ 1) × (bit next p ≡ 0 → P p))
        here = (
          λ e. absurd (omega (arith, e, clear_bit_same m p)),
          λ h. absurd (wrong (h.1 (dropped_same d l))),
        )

        go : (b : ℕ) → Dec (b ≡ p) → (bit (clear_bit m p) b ≡ 1) ↔ ((bit c b ≡ 1) × (bit next b ≡ 0 → P b))
        go b (yes x) = subst (λ (b : ℕ). (bit (clear_bit m p) b ≡ 1) ↔ ((bit c b ≡ 1) × (bit next b ≡ 0 → P b))) (sym x) here
        go b (no f) = rw (clear_bit_other m p b f) (others b f)

  pub sieved_all : {m : ℕ} → Sieved P c 0 m → (b : ℕ) → (bit m b ≡ 1) ↔ ((bit c b ≡ 1) × P b)
  sieved_all k b =
      let r = k.done b in (λ e. let (x, y) = r.0 e in (x, y (bit_zero b)), λ h. r.1 (h.0, λ z. h.1))
