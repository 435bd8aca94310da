-- The number of set bits.
use mathlib.Core.Path.{◌≡◌, refl, sym, ap, ap₂, ◌∙◌}
use mathlib.Core.Logic.{◌↔◌, ⊎_elim}
use Prim.Native.Nat.{ℕ, zero, suc, ◌+◌, ◌/◌, ◌^◌, ◌≤◌, ◌<◌}
use native.Mathlib.Nat.{le_refl, le_step, le_of_suc-le-suc, eq-or-lt_of_le, not-suc-le-zero}
use native.Mathlib.Decide.{ℕ_discrete}
use native.Mathlib.Omega.{arith}
use lib.Arith.{lt-one}
use lib.Count.{ones, ones_step}
use Rattle.words.specs.Bits.{bit, ones_below}
use Rattle.words.specs.Sets.{set_bit, Least, LeastDropped}
use Rattle.words.proofs.Bits.{bit_cases, bit_le_one, bit_zero, bit_half, bit_lowest, half_below}
use Rattle.words.proofs.SetBits.{set_bit_same, set_bit_other}
use Rattle.words.proofs.Lowest.{dropped_same, dropped_other}

-- words with the same bits below w
pub ones_same : (w m n : ℕ) → ((k : ℕ) → k < w → bit m k ≡ bit n k) → ones_below w m ≡ ones_below w n
unfolding ones_below
ones_same zero m n same = refl
ones_same (suc w) m n same =
    ap₂ ◌+◌ (same w (le_refl (suc w))) (ones_same w m n (λ k h. same k (le_step h)))

pub ones_zero : (w : ℕ) → ones_below w 0 ≡ 0
unfolding ones_below
ones_zero zero = refl
ones_zero (suc w) = omega (arith, bit_zero w, ones_zero w)

pub ones_at_most : (w n : ℕ) → ones_below w n ≤ w
unfolding ones_below
ones_at_most zero n = omega arith
ones_at_most (suc w) n = omega (arith, bit_le_one n w, ones_at_most w n)

-- ---- one bit more

pub ones_set : (w n k : ℕ) → k < w → bit n k ≡ 0 → ones_below w (set_bit n k) ≡ ones_below w n + 1
unfolding ones_below
ones_set zero n k h e = absurd (not-suc-le-zero h)
ones_set (suc w) n k h e =
    ⊎_elim
    (λ p.
    omega (
      arith,
      sym (ap (bit (set_bit n k)) p) ∙ set_bit_same n k,
      sym (ap (bit n) p) ∙ e,
      ones_same w (set_bit n k) n (λ j l. set_bit_other n k j (λ q. omega arith)),
    ))
    (λ l. omega (arith, set_bit_other n k w (λ q. omega arith), ones_set w n k l e)) (eq-or-lt_of_le (le_of_suc-le-suc h))

-- dropping the least bit takes one away
pub ones_dropped : {w n r k : ℕ} → LeastDropped w n r → Least w n k → ones_below w n ≡ ones_below w r + 1
ones_dropped {w} {n} {r} {k} d l =
    sym (ones_same w (set_bit r k) n (λ j h. again j (ℕ_discrete j k))) ∙ ones_set w r k l.below (dropped_same d l)
  where
    again : (j : ℕ) → Dec (j ≡ k) → bit (set_bit r k) j ≡ bit n j
    again j (yes e) = rw e (set_bit_same r k ∙ sym l.set)
    again j (no f) = set_bit_other r k j f ∙ dropped_other j d l f

-- ---- some bit

ones_some : (w n : ℕ) → 0 < ones_below w n → (k : ℕ) × (k < w) × (bit n k ≡ 1)
unfolding ones_below
ones_some zero n h = absurd (not-suc-le-zero h)
ones_some (suc w) n h =
    ⊎_elim (λ e. let r = ones_some w n (omega arith) in (r.0, le_step r.1, r.2)) (λ e. (w, le_refl (suc w), e))
    (bit_cases n w)

some_ones : (w n k : ℕ) → k < w → bit n k ≡ 1 → 0 < ones_below w n
unfolding ones_below
some_ones zero n k h e = absurd (not-suc-le-zero h)
some_ones (suc w) n k h e =
    ⊎_elim (λ p. omega (arith, rw p at e)) (λ l. omega (arith, some_ones w n k l e)) (eq-or-lt_of_le (le_of_suc-le-suc h))

pub ones_pos : (w n : ℕ) → (0 < ones_below w n) ↔ ((k : ℕ) × (k < w) × (bit n k ≡ 1))
ones_pos w n = (ones_some w n, λ r. some_ones w n r.0 r.1 r.2)

-- ---- the machine's count

ones_half : (w n : ℕ) → ones_below (suc w) n ≡ bit n 0 + ones_below w (n / 2)
unfolding ones_below
ones_half zero n = refl
ones_half (suc w) n = omega (arith, ones_half w n, bit_half n w)

pub count_ones : (w n : ℕ) → n < 2 ^ w → ones n ≡ ones_below w n
unfolding ones ones_below
count_ones zero n h = ap ones (lt-one h)
count_ones (suc w) n h =
    ones_step n ∙ sym (ones_half w n ∙ ap₂ ◌+◌ (bit_lowest n) (sym (count_ones w (n / 2) (half_below w h))))
