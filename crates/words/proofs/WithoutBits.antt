-- The bits of a word that another lacks.
use mathlib.Core.Path.{◌≡◌, ap}
use mathlib.Core.Logic.{⊎_elim}
use Prim.Native.Nat.{ℕ, zero, suc, ◌+◌, ◌^◌, ◌≤◌, ◌<◌}
use native.Mathlib.Nat.{not-suc-le-zero, le_of_suc-le-suc, lt_of_le_of_lt, eq-or-lt_of_le}
use native.Mathlib.Omega.{arith}
use lib.Bits.{bit_and, and_le_l, and_le_r, xor_add_and}
use Rattle.words.specs.Bits.{bit, ones_below}
use Rattle.words.specs.Sets.{Without}
use Rattle.words.proofs.Bits.{below_power, bit_cases, bit_zero, same_bits}
use Rattle.words.proofs.Masks.{bit_and_iff}
use Rattle.words.proofs.ClearBits.{without_xor}

pub without_once : {a b r s : ℕ} → Without a b r → Without a b s → r ≡ s
without_once {a} {b} {r} {s} p q =
    same_bits a r s (p.below a (below_power a)) (q.below a (below_power a)) (λ k.
    (λ e. (q.bits k).1 ((p.bits k).0 e), λ e. (p.bits k).1 ((q.bits k).0 e)))

-- ---- what is gone was a part

and_again : (a b : ℕ) → bit_and a (bit_and a b) ≡ bit_and a b
and_again a b =
    let small : bit_and a b < 2 ^ a = lt_of_le_of_lt (and_le_l a b) (below_power a) in
    same_bits a (bit_and a (bit_and a b)) (bit_and a b) (lt_of_le_of_lt (and_le_r a (bit_and a b)) small) small (λ k. (
      λ e. ((bit_and_iff a (bit_and a b) k).0 e).1,
      λ e. (bit_and_iff a (bit_and a b) k).1 (((bit_and_iff a b k).0 e).0, e),
    ))

-- what is left and what is gone
without_sum : {a b r : ℕ} → Without a b r → r + bit_and a b ≡ a
without_sum {a} {b} {r} p = omega (arith, without_once p (without_xor a b), xor_add_and a (bit_and a b), and_again a b)

pub without_same : {a b r : ℕ} → Without a b r → ((k : ℕ) → bit a k ≡ 1 → bit b k ≡ 1 → ⊥) → r ≡ a
without_same {a} {b} {r} p apart =
    same_bits a r a (p.below a (below_power a)) (below_power a) (λ k. (
      λ e. ((p.bits k).0 e).0,
      λ e. (p.bits k).1 (e, ⊎_elim (λ z. z) (λ o. absurd (apart k e o)) (bit_cases b k)),
    ))

pub without_less : {a b r : ℕ} (k : ℕ) → Without a b r → bit a k ≡ 1 → bit b k ≡ 1 → r < a
without_less {a} {b} {r} k p e f =
    let some : bit_and a b ≡ 0 → ⊥ = λ z. omega (arith, (bit_and_iff a b k).1 (e, f), ap (λ (x : ℕ). bit x k) z, bit_zero k) in
    omega (arith, without_sum p, some)

-- ---- how many bits are left

bit_left : {a b r : ℕ} (k : ℕ) → Without a b r → bit r k ≤ bit a k
bit_left {a} {b} {r} k p = ⊎_elim (λ z. omega (arith, z)) (λ o. omega (arith, o, ((p.bits k).0 o).0)) (bit_cases r k)

bit_gone : {a b r : ℕ} (k : ℕ) → Without a b r → bit b k ≡ 1 → bit r k ≡ 0
bit_gone {a} {b} {r} k p e = ⊎_elim (λ z. z) (λ o. absurd (omega (arith, e, ((p.bits k).0 o).1))) (bit_cases r k)

ones_left : (w : ℕ) {a b r : ℕ} → Without a b r → ones_below w r ≤ ones_below w a
unfolding ones_below
ones_left zero p = omega arith
ones_left (suc w) p = omega (arith, bit_left w p, ones_left w p)

pub ones_less : (w : ℕ) {a b r : ℕ} (k : ℕ) → Without a b r → k < w → bit a k ≡ 1 → bit b k ≡ 1 → ones_below w r < ones_below w a
unfolding ones_below
ones_less zero k p h e f = absurd (not-suc-le-zero h)
ones_less (suc w) {a} {b} {r} k p h e f =
    ⊎_elim (λ q. omega (arith, ones_left w p, rw q at e, bit_gone w p (rw q at f)))
    (λ l. omega (arith, bit_left w p, ones_less w k p l e f)) (eq-or-lt_of_le (le_of_suc-le-suc h))
