-- The partitions of a word that pass a test, and how many there are.
use mathlib.Core.Path.{◌≡◌, sym, ap, subst, ◌∙◌}
use mathlib.Core.Logic.{◌↔◌, ⊎_elim}
use mathlib.Core.Bool.{Bool, true, false, cond}
use mathlib.Core.List.{List, [], ◌∷◌}
use Prim.Native.Nat.{ℕ, zero, suc, ◌+◌, ◌-◌, ◌*◌, ◌/◌, ◌%◌, ◌^◌, ◌≤◌, ◌<◌, suc-le-suc, zero-le}
use native.Mathlib.Nat.{not-suc-le-zero, le_of_suc-le-suc, le_refl, le_step, zero-add, suc-add, pow-suc, lt_of_lt_of_le, lt_of_le_of_lt}
use native.Mathlib.Omega.{arith}
use lib.Bits.{bit_and, and_le_r}
use lib.Dec.{T}
use lib.ListN.{length, get_or}
use lib.Pow.{pow_mono}
use Rattle.theory.proofs.Lists.{place_below, below_place, there}
use Rattle.theory.specs.Count.{Counts, none_below, one_more, no_more}
use Rattle.words.specs.Bits.{bit, ones_below}
use Rattle.words.proofs.Bits.{bit_zero, bit_cases, bit_half, bit_lowest, bit_beyond, same_bits}
use Rattle.words.specs.TestBits.{test_bits}
use Rattle.words.proofs.Masks.{bit_and_iff}
use Rattle.words.proofs.TestBits.{tests_bit, tests_below}
use Rattle.sessions.specs.Session.{open_count}
use Rattle.sessions.specs.Deciding.{passing}

-- ---- the bits of the word

module _ (f : List ℕ → Bool) where
  -- the lowest bit, and the others
  first : (b : Bool) (low rest : ℕ) → low ≤ 1 → (cond b low 0 + 2 * rest) % 2 ≡ cond b low 0
  first true low rest h = omega arith
  first false low rest h = omega arith

  others : (b : Bool) (low rest : ℕ) → low ≤ 1 → (cond b low 0 + 2 * rest) / 2 ≡ rest
  others true low rest h = omega arith
  others false low rest h = omega arith

  low_iff : (b : Bool) (low : ℕ) → (cond b low 0 ≡ 1) ↔ (T b × (low ≡ 1))
  low_iff true low = (λ e. (tt, e), λ r. r.1)
  low_iff false low = (λ e. absurd (omega arith), λ r. absurd r.0)

  low_below : (b : Bool) (low : ℕ) → cond b low 0 ≤ low
  low_below true low = le_refl low
  low_below false low = zero-le

  pub passing_iff : (ps : List (List ℕ)) (mask i : ℕ)
      → (bit (passing f ps mask) i ≡ 1) ↔ ((i < length ps) × T (f (get_or ps i [])) × (bit mask i ≡ 1))
  unfolding passing
  passing_iff [] mask i = (λ e. absurd (omega (arith, bit_zero i)), λ r. absurd (not-suc-le-zero r.0))
  passing_iff (vs ∷ ps) mask zero =
      let w = cond (f vs) (mask % 2) 0 + 2 * passing f ps (mask / 2) in
      let e : bit w 0 ≡ cond (f vs) (mask % 2) 0 = bit_lowest w ∙ first (f vs) (mask % 2) (passing f ps (mask / 2)) (omega arith) in
      let k = low_iff (f vs) (mask % 2) in (
        λ h. let (t, m) = k.0 (sym e ∙ h) in (suc-le-suc zero-le, t, bit_lowest mask ∙ m),
        λ r. e ∙ k.1 (r.1, sym (bit_lowest mask) ∙ r.2),
      )
  passing_iff (vs ∷ ps) mask (suc i) =
      let w = cond (f vs) (mask % 2) 0 + 2 * passing f ps (mask / 2) in
      let e : bit w (suc i) ≡ bit (passing f ps (mask / 2)) i =
      sym (bit_half w i) ∙ ap (λ (x : ℕ). bit x i) (others (f vs) (mask % 2) (passing f ps (mask / 2)) (omega arith)) in
      let k = passing_iff ps (mask / 2) i in (
        λ h. let (l, t, m) = k.0 (sym e ∙ h) in (suc-le-suc l, t, sym (bit_half mask i) ∙ m),
        λ r. e ∙ k.1 (le_of_suc-le-suc r.0, r.1, bit_half mask i ∙ r.2),
      )

  pub passing_below : (ps : List (List ℕ)) (mask : ℕ) → passing f ps mask < 2 ^ length ps
  unfolding passing
  passing_below [] mask = omega arith
  passing_below (vs ∷ ps) mask = omega (arith, low_below (f vs) (mask % 2), passing_below ps (mask / 2), pow-suc 2 (length ps))

  -- the open partitions that pass are those of both words
  pub passing_and : (ps : List (List ℕ)) (mask : ℕ) → bit_and mask (test_bits f ps) ≡ passing f ps mask
  passing_and ps mask =
      same_bits (length ps) (bit_and mask (test_bits f ps)) (passing f ps mask)
      (lt_of_le_of_lt (and_le_r mask (test_bits f ps)) (tests_below f ps)) (passing_below ps mask) (λ i.
      let both = bit_and_iff mask (test_bits f ps) i in
      let k = passing_iff ps mask i in (
        λ e.
            let (m, t) = both.0 e in
            let (vs, at, p) = (tests_bit f ps i).0 t in
            k.1 (place_below ps i at, subst (λ (x : List ℕ). T (f x)) (sym (there ps i [] at)) p, m),
        λ e.
            let (l, t, m) = k.0 e in
            let (vs, at) = below_place ps i l in
            both.1 (m, (tests_bit f ps i).1 (vs, at, subst (λ (x : List ℕ). T (f x)) (there ps i [] at) t)),
      ))

-- ---- how many

ones_wide : (n k mask : ℕ) → mask < 2 ^ n → ones_below (k + n) mask ≡ ones_below n mask
unfolding ones_below
ones_wide n zero mask h = rw zero-add
ones_wide n (suc k) mask h =
    rw (suc-add, bit_beyond {n = mask} (k + n) (lt_of_lt_of_le h (pow_mono {i = n} (omega arith))), zero-add) (ones_wide n k mask h)

ones_count : (P : ℕ → Type 0) (n mask : ℕ) → ((i : ℕ) → i < n → (bit mask i ≡ 1) ↔ P i) → Counts P n (ones_below n mask)
unfolding ones_below
ones_count P zero mask h = none_below
ones_count P (suc n) mask h =
    let rest = ones_count P n mask (λ i l. h i (le_step l)) in
    let here = h n (le_refl (suc n)) in
    ⊎_elim (λ e. subst (Counts P (suc n)) (omega arith) (no_more (λ p. omega (arith, here.1 p)) rest))
    (λ e. subst (Counts P (suc n)) (omega arith) (one_more (here.0 e) rest)) (bit_cases mask n)

-- "the count of partitions still open"
pub open_count_lem : (P : ℕ → Type 0) (n mask : ℕ) → n ≤ 64 → mask < 2 ^ n → ((i : ℕ) → i < n → (bit mask i ≡ 1) ↔ P i)
    → Counts P n (open_count mask)
open_count_lem P n mask few below h =
    let wide : 64 - n + n ≡ 64 = omega arith in
    let same : ones_below n mask ≡ ones_below 64 mask = sym (ones_wide n (64 - n) mask below) ∙ ap (λ (w : ℕ). ones_below w mask) wide in
    subst (Counts P n) same (ones_count P n mask h)
