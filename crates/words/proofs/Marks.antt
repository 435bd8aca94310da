-- Words built bit by bit, each bit by a test: over a range, and over the bits of another word.
use mathlib.Core.Path.{◌≡◌, refl, sym, subst, ◌∙◌}
use mathlib.Core.Logic.{◌↔◌, ⊎_elim}
use mathlib.Core.Bool.{Bool, true, false, cond}
use mathlib.Core.List.{List}
use Prim.Native.Nat.{ℕ, ◌+◌, ◌≤◌, ◌<◌}
use native.Mathlib.Decide.{ℕ_discrete, dec_lt}
use native.Mathlib.Omega.{arith}
use lib.Dec.{T}
use lib.ListN.{length, get_or, set, length-set}
use lib.Seq.{get_or-set_same, get_or-set_other}
use Rattle.words.specs.Bits.{bit}
use Rattle.words.specs.Sets.{set_bit, Upto, Least, LeastDropped}
use Rattle.words.proofs.Bits.{bit_zero, bit_cases}
use Rattle.words.proofs.SetBits.{set_bit_same, set_bit_other}
use Rattle.words.proofs.Lowest.{dropped_same, dropped_other}

-- the word with bit p set if the test passes: bit p is as the test says, and the others are as they were
module _ (m p : ℕ) where
  pub put_same : {S : Type 0} (on : Bool) → T on ↔ S → bit m p ≡ 0 → (bit (cond on (set_bit m p) m) p ≡ 1) ↔ S
  put_same true w z = (λ e. w.0 tt, λ s. set_bit_same m p)
  put_same false w z = (λ e. absurd (omega arith), λ s. absurd (w.1 s))

  pub put_other : (on : Bool) (b : ℕ) → (b ≡ p → ⊥) → bit (cond on (set_bit m p) m) b ≡ bit m b
  put_other true b f = set_bit_other m p b f
  put_other false b f = refl

module _ {P : ℕ → Type 0} where
  pub upto_none : (p : ℕ) → ((b : ℕ) → b < p → P b → ⊥) → Upto P p 0
  upto_none p f = record {
    below = λ b l. (λ e. absurd (omega (arith, bit_zero b)), λ h. absurd (f b l h));
    past = λ b l. bit_zero b;
  }

  pub upto_more : {p m : ℕ} (on : Bool) → Upto P p m → T on ↔ P p → Upto P (p + 1) (cond on (set_bit m p) m)
  upto_more {p} {m} on u w = record {
    below = λ b l. go b l (ℕ_discrete b p);
    past = λ b l. put_other m p on b (λ e. omega arith) ∙ u.past b (omega arith);
  }
    where
      go : (b : ℕ) → b < p + 1 → Dec (b ≡ p) → (bit (cond on (set_bit m p) m) b ≡ 1) ↔ P b
      go b l (yes e) = subst (λ (k : ℕ). (bit (cond on (set_bit m p) m) k ≡ 1) ↔ P k) (sym e) (put_same m p on w (u.past p (omega arith)))
      go b l (no f) = let o = put_other m p on b f in
          let r = u.below b (omega arith) in (λ e. r.0 (sym o ∙ e), λ h. o ∙ r.1 h)

  pub upto_set : {p m : ℕ} → Upto P p m → (b : ℕ) → bit m b ≡ 1 → P b
  upto_set {p} {m} u b e = go (dec_lt b p)
    where
      go : Dec (b < p) → P b
      go (yes l) = (u.below b l).0 e
      go (no n) = absurd (omega (arith, e, u.past b (omega arith)))

  pub upto_all : {p m : ℕ} → Upto P p m → ((b : ℕ) → p ≤ b → P b → ⊥) → (b : ℕ) → (bit m b ≡ 1) ↔ P b
  upto_all {p} {m} u f b = go (dec_lt b p)
    where
      go : Dec (b < p) → (bit m b ≡ 1) ↔ P b
      go (yes l) = u.below b l
      go (no n) = (λ e. absurd (omega (arith, u.past b (omega arith))), λ h. absurd (f b (omega arith) h))

-- the bits of c that are no longer in `rest` are set by the test, and no others
pub record Picked (P : ℕ → Type 0) (c rest m : ℕ) : Type 0 where
  pub some : (b : ℕ) → bit rest b ≡ 1 → bit c b ≡ 1
  pub done : (b : ℕ) → (bit m b ≡ 1) ↔ ((bit c b ≡ 1) × (bit rest b ≡ 0) × P b)

-- a bit of what is left was one of what was left before
pub left_before : {rest p next : ℕ} (b : ℕ) → Least 64 rest p → LeastDropped 64 rest next → bit next b ≡ 1 → bit rest b ≡ 1
left_before {rest} {p} {next} b l d = go (ℕ_discrete b p)
  where
    go : Dec (b ≡ p) → bit next b ≡ 1 → bit rest b ≡ 1
    go (yes e) h = absurd (omega (arith, dropped_same d l, rw e at h))
    go (no f) h = sym (dropped_other b d l f) ∙ h

module _ {P : ℕ → Type 0} {c : ℕ} where
  pub picked_none : Picked P c c 0
  picked_none = record {
    some = λ b e. e;
    done = λ b. (λ e. absurd (omega (arith, bit_zero b)), λ r. absurd (omega (arith, r.0, r.1)));
  }

  pub picked_more : {rest p next m : ℕ} (on : Bool) (r : ℕ) → Picked P c rest m → Least 64 rest p → LeastDropped 64 rest next
      → T on ↔ P p → r ≡ cond on (set_bit m p) m → Picked P c next r
  picked_more {rest} {p} {next} {m} on r k l d w e =
      rw e (record { some = λ b h. k.some b (left_before b l d h); done = λ b. go b (ℕ_discrete b p) })
    where
      clear : bit m p ≡ 0
      clear = ⊎_elim (λ z. z) (λ e. absurd (omega (arith, ((k.done p).0 e).1, l.set))) (bit_cases m p)

      go : (b : ℕ) → Dec (b ≡ p) → (bit (cond on (set_bit m p) m) b ≡ 1) ↔ ((bit c b ≡ 1) × (bit next b ≡ 0) × P b)
      go b (yes e) =
          subst (λ (x : ℕ). (bit (cond on (set_bit m p) m) x ≡ 1) ↔ ((bit c x ≡ 1) × (bit next x ≡ 0) × P x)) (sym e)
          (let r = put_same m p on w clear in (λ h. (k.some p l.set, dropped_same d l, r.0 h), λ h. r.1 h.2))
      go b (no f) = let o = put_other m p on b f in
          let r = k.done b in
          let s = dropped_other b d l f in
          (λ e. let h = r.0 (sym o ∙ e) in (h.0, s ∙ h.1, h.2), λ h. o ∙ r.1 (h.0, sym s ∙ h.1, h.2))

  pub picked_all : {m : ℕ} → Picked P c 0 m → (b : ℕ) → (bit m b ≡ 1) ↔ ((bit c b ≡ 1) × P b)
  picked_all k b = let r = k.done b in (λ e. let h = r.0 e in (h.0, h.2), λ h. r.1 (h.0, bit_zero b, h.1))

-- the entries at the bits of c that are no longer in `rest` are as they should be
pub record Filled (P : ℕ → ℕ → Type 0) (c rest : ℕ) (words : List ℕ) : Type 0 where
  pub some : (b : ℕ) → bit rest b ≡ 1 → bit c b ≡ 1
  pub done : (b : ℕ) → bit c b ≡ 1 → bit rest b ≡ 0 → P b (get_or words b 0)
  pub long : length words ≡ 64

module _ {P : ℕ → ℕ → Type 0} {c : ℕ} where
  pub filled_none : (words : List ℕ) → length words ≡ 64 → Filled P c c words
  filled_none words e = record { some = λ b h. h; done = λ b h z. absurd (omega arith); long = e }

  pub filled_more : {rest p next : ℕ} {words : List ℕ} (w : ℕ) → Filled P c rest words → Least 64 rest p → LeastDropped 64 rest next
      → P p w → Filled P c next (set words p w)
  filled_more {rest} {p} {next} {words} w k l d right = record {
    some = λ b e. k.some b (left_before b l d e);
    done = λ b h z. go b h z (ℕ_discrete b p);
    long = length-set words p w ∙ k.long;
  }
    where
      go : (b : ℕ) → bit c b ≡ 1 → bit next b ≡ 0 → Dec (b ≡ p) → P b (get_or (set words p w) b 0)
      go b h z (yes e) =
          subst (λ (x : ℕ). P x (get_or (set words p w) x 0)) (sym e)
          (rw (get_or-set_same words p w 0 (omega (arith, l.below, k.long))) right)
      go b h z (no f) = rw (get_or-set_other words p b w 0 f) (k.done b h (sym (dropped_other b d l f) ∙ z))

  pub filled_all : {words : List ℕ} → Filled P c 0 words → (b : ℕ) → bit c b ≡ 1 → P b (get_or words b 0)
  filled_all k b h = k.done b h (bit_zero b)

-- a test and one that is equal to it
pub by_test : {S : Type 0} {a b : Bool} → a ≡ b → T b ↔ S → T a ↔ S
by_test e w = rw e w
