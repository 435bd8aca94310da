-- Demand 3, "the number of the policy's partitions that …": a count that asks no decision.
use Rattle.std.specs.Prelude.{ℕ, zero, suc}

-- exactly k of the numbers below n have the property P
pub data Counts (P : ℕ → Type 0) : ℕ → ℕ → Type 0 where
  none_below : Counts P zero zero
  one_more : {n k : ℕ} → P n → Counts P n k → Counts P (suc n) (suc k)
  no_more : {n k : ℕ} → (P n → ⊥) → Counts P n k → Counts P (suc n) k
