-- The least set bit: the number of trailing zeros, and the bit that n & (n - 1) lacks.
use mathlib.Core.Path.{◌≡◌, refl, sym, ap, ◌∙◌}
use mathlib.Core.Logic.{⊎_elim}
use mathlib.Core.Bool.{cond}
use Prim.Native.Nat.{ℕ, zero, suc, ◌+◌, ◌-◌, ◌/◌, ◌%◌, ◌^◌, ◌≤◌, ◌<◌, suc-le-suc}
use native.Mathlib.Nat.{le_antisymm, le_of_suc-le-suc, lt_of_not-le, add-div_right, pow-suc}
use native.Mathlib.Decide.{ℕ_discrete}
use native.Mathlib.Omega.{arith}
use borrow.Author.Tests.{eq-eqb, ne_eqb}
use lib.Bits.{bit_and, and_step, and_self}
use lib.Count.{count_trailing_zeros}
use lib.Dec.{eqb}
use lib.Pow.{pow_pos}
use Rattle.words.specs.Bits.{bit}
use Rattle.words.specs.Sets.{Least, LeastDropped}
use Rattle.words.proofs.Bits.{bit_cases, bit_half, bit_lowest, half_below}
use Rattle.words.proofs.SetBits.{set_bit_adds, set_bit_other}

-- a number has one least bit
least_le : {w n j k : ℕ} → Least w n j → Least w n k → j ≤ k
least_le {k = k} r s = le_of_suc-le-suc (lt_of_not-le (λ (h : suc k ≤ _). omega (arith, r.none k h)))

pub least_unique : {w n j k : ℕ} → Least w n j → Least w n k → j ≡ k
least_unique r s = le_antisymm (least_le r s) (least_le s r)

-- ---- trailing zeros

least_odd : (w n : ℕ) → bit n 0 ≡ 1 → Least (suc w) n (count_trailing_zeros (suc w) n)
unfolding count_trailing_zeros
least_odd w n e =
    let odd : n % 2 ≡ 1 = sym (bit_lowest n) ∙ e in
    rw odd (record { below = omega arith; set = e; none = λ j h. absurd (omega arith) })

none_double : (n k : ℕ) → bit n 0 ≡ 0 → ((j : ℕ) → j < k → bit (n / 2) j ≡ 0)
    → (j : ℕ) → j < suc k → bit n j ≡ 0
none_double n k e none zero h = e
none_double n k e none (suc j) h = sym (bit_half n j) ∙ none j (le_of_suc-le-suc h)

least_even : (w n : ℕ) → bit n 0 ≡ 0 → Least w (n / 2) (count_trailing_zeros w (n / 2))
    → Least (suc w) n (count_trailing_zeros (suc w) n)
unfolding count_trailing_zeros
least_even w n e r =
    let even : n % 2 ≡ 0 = sym (bit_lowest n) ∙ e in
    rw even (
    record {
      below = suc-le-suc r.below;
      set = sym (bit_half n (count_trailing_zeros w (n / 2))) ∙ r.set;
      none = none_double n (count_trailing_zeros w (n / 2)) e r.none;
    }
    )

pub trailing_least : (w n : ℕ) → 0 < n → n < 2 ^ w → Least w n (count_trailing_zeros w n)
trailing_least zero n p h = absurd (omega arith)
trailing_least (suc w) n p h =
    ⊎_elim
    (λ e. least_even w n e (trailing_least w (n / 2) (omega (arith, bit_lowest n)) (half_below w h)))
    (λ e. least_odd w n e) (bit_cases n 0)

-- ---- n & (n - 1)

pub and_pred : (k n : ℕ) → bit n k ≡ 1 → ((j : ℕ) → j < k → bit n j ≡ 0) → bit_and n (n - 1) + 2 ^ k ≡ n
and_pred zero n set none =
    let odd : n % 2 ≡ 1 = sym (bit_lowest n) ∙ set in
    let half : (n - 1) / 2 ≡ n / 2 = omega arith in
    omega (arith, and_step n (n - 1), ap (bit_and (n / 2)) half ∙ and_self (n / 2))
and_pred (suc k) n set none =
    let even : n % 2 ≡ 0 = sym (bit_lowest n) ∙ none 0 (omega arith) in
    let rest : bit_and (n / 2) (n / 2 - 1) + 2 ^ k ≡ n / 2 =
    and_pred k (n / 2) (bit_half n k ∙ set) (λ j h. bit_half n j ∙ none (suc j) (suc-le-suc h))
    in
    let half : (n - 1) / 2 ≡ n / 2 - 1 = omega (arith, pow_pos k) in
    omega (arith, and_step n (n - 1), ap (bit_and (n / 2)) half, pow-suc 2 k)

-- adding 2 ^ k turns bit k over
bit_flip : (r k : ℕ) → bit (r + 2 ^ k) k + bit r k ≡ 1
bit_flip r k = rw (add-div_right r (pow_pos k)) (omega arith)

module _ (r n k : ℕ) (e : r + 2 ^ k ≡ n) (set : bit n k ≡ 1) where
  clear : bit r k ≡ 0
  clear = omega (arith, bit_flip r k, ap (λ (x : ℕ). bit x k) e)

  same : (j : ℕ) → (j ≡ k → ⊥) → bit r j ≡ bit n j
  same j f = sym (set_bit_other r k j f) ∙ ap (λ (x : ℕ). bit x j) (set_bit_adds r k clear ∙ e)

  taken : (j : ℕ) → Dec (j ≡ k) → bit r j ≡ cond (eqb j k) 0 (bit n j)
  taken j (yes p) = rw (eq-eqb j k p, p) clear
  taken j (no f) = rw (ne_eqb j k f) (same j f)

pub and_pred_dropped : (w n : ℕ) → 0 < n → n < 2 ^ w → LeastDropped w n (bit_and n (n - 1))
and_pred_dropped w n p h =
    let found = trailing_least w n p h in
    record {
      bits = λ k j l. taken (bit_and n (n - 1)) n k (and_pred k n l.set l.none) l.set j (ℕ_discrete j k);
      less = omega (arith, and_pred (count_trailing_zeros w n) n found.set found.none, pow_pos (count_trailing_zeros w n));
    }

pub dropped_same : {w n r k : ℕ} → LeastDropped w n r → Least w n k → bit r k ≡ 0
dropped_same {k = k} d l = rw (eq-eqb k k refl) at (d.bits k k l)

pub dropped_other : {w n r k : ℕ} (j : ℕ) → LeastDropped w n r → Least w n k → (j ≡ k → ⊥) → bit r j ≡ bit n j
dropped_other {k = k} j d l f = rw (ne_eqb j k f) at (d.bits k j l)
