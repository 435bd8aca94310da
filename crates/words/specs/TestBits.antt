-- Words made by tests: which elements of a list pass, the first at bit 0. A label's views, the partitions that grant a view and those
-- that settle a query are such words.
use Rattle.std.specs.Prelude.{Bool, cond, List, [], ◌∷◌, ℕ, zero, suc, ◌+◌, ◌*◌}

unfoldable pub test_bits : {X : Type 0} → (X → Bool) → List X → ℕ
test_bits f [] = 0
test_bits f (x ∷ l) = cond (f x) 1 0 + 2 * test_bits f l

-- the n numbers from m on
unfoldable pub up_from : ℕ → ℕ → List ℕ
up_from m zero = []
up_from m (suc n) = m ∷ up_from (suc m) n
