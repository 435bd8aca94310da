-- Facts on counts: a property's count below n is one number, at most n, and there where the property is decided.
use mathlib.Core.Path.{◌≡◌, refl, ap}
use mathlib.Core.Logic.{◌↔◌}
use Prim.Native.Nat.{ℕ, zero, suc, ◌≤◌, ◌<◌, suc-le-suc}
use native.Mathlib.Nat.{le_refl, le_step}
use Rattle.theory.specs.Count.{Counts, none_below, one_more, no_more}

pub counts_unique : {P : ℕ → Type 0} {n j k : ℕ} → Counts P n j → Counts P n k → j ≡ k
counts_unique none_below none_below = refl
counts_unique (one_more p c) (one_more q d) = ap suc (counts_unique c d)
counts_unique (one_more p c) (no_more q d) = absurd (q p)
counts_unique (no_more p c) (one_more q d) = absurd (p q)
counts_unique (no_more p c) (no_more q d) = counts_unique c d

-- two properties that the same numbers below n have
pub counts_same : {P Q : ℕ → Type 0} {n k : ℕ} → ((i : ℕ) → i < n → P i ↔ Q i) → Counts P n k → Counts Q n k
counts_same h none_below = none_below
counts_same h (one_more {n = m} p c) = one_more ((h m (le_refl (suc m))).0 p) (counts_same (λ i l. h i (le_step l)) c)
counts_same h (no_more {n = m} p c) =
    no_more (λ q. p ((h m (le_refl (suc m))).1 q)) (counts_same (λ i l. h i (le_step l)) c)

pub counts_at_most : {P : ℕ → Type 0} {n k : ℕ} → Counts P n k → k ≤ n
counts_at_most none_below = le_refl zero
counts_at_most (one_more p c) = suc-le-suc (counts_at_most c)
counts_at_most (no_more p c) = le_step (counts_at_most c)

-- one number more, decided
counts_next : {P : ℕ → Type 0} {n : ℕ} → Dec (P n) → (k : ℕ) × Counts P n k → (k : ℕ) × Counts P (suc n) k
counts_next (yes p) r = (suc r.0, one_more p r.1)
counts_next (no p) r = (r.0, no_more p r.1)

pub counts_decided : {P : ℕ → Type 0} (n : ℕ) → ((i : ℕ) → i < n → Dec (P i)) → (k : ℕ) × Counts P n k
counts_decided zero d = (zero, none_below)
counts_decided (suc n) d = counts_next (d n (le_refl (suc n))) (counts_decided n (λ i l. d i (le_step l)))
