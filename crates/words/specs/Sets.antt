-- Words as sets of bits: one bit set or cleared, two words compared, bits found.
use Rattle.std.specs.Prelude.{◌≡◌, ◌↔◌, Bool, true, false, cond, not, ◌&&◌, ◌||◌, ℕ, zero, suc, ◌+◌, ◌-◌, ◌^◌, ◌≤◌, ◌<◌, eqb}
use Rattle.words.specs.Bits.{bit, is_set}

-- the word with bit k set
unfoldable pub set_bit : ℕ → ℕ → ℕ
set_bit n k = cond (is_set n k) n (n + 2 ^ k)

-- the word with bit k clear
unfoldable pub clear_bit : ℕ → ℕ → ℕ
clear_bit n k = cond (is_set n k) (n - 2 ^ k) n

-- r has the bits of a that b lacks
pub record Without (a b r : ℕ) : Type 0 where
  pub bits : (k : ℕ) → (bit r k ≡ 1) ↔ ((bit a k ≡ 1) × (bit b k ≡ 0))
  pub below : (w : ℕ) → a < 2 ^ w → r < 2 ^ w

-- some bit below w is set in both words
unfoldable pub meet : ℕ → ℕ → ℕ → Bool
meet zero a b = false
meet (suc w) a b = (is_set a w && is_set b w) || meet w a b

-- every bit below w that is set in b is set in a
unfoldable pub include : ℕ → ℕ → ℕ → Bool
include zero a b = true
include (suc w) a b = (not (is_set b w) || is_set a w) && include w a b

-- the bits below p are set exactly where P holds, and none from p on
pub record Upto (P : ℕ → Type 0) (p m : ℕ) : Type 0 where
  pub below : (b : ℕ) → b < p → (bit m b ≡ 1) ↔ P b
  pub past : (b : ℕ) → p ≤ b → bit m b ≡ 0

-- k is the least of the set bits of n, and below w
pub record Least (w n k : ℕ) : Type 0 where
  pub below : k < w
  pub set : bit n k ≡ 1
  pub none : (j : ℕ) → j < k → bit n j ≡ 0

-- r is n with its least set bit cleared
pub record LeastDropped (w n r : ℕ) : Type 0 where
  pub bits : (k j : ℕ) → Least w n k → bit r j ≡ cond (eqb j k) 0 (bit n j)
  pub less : r < n
