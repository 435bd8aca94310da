-- Tests on lists and terms.
use Rattle.std.specs.Prelude.{Bool, true, false, ◌&&◌, ◌||◌, List, [], ◌∷◌, ℕ, zero, suc, eqb}
use Rattle.theory.specs.Query.{Term, constant, shown, hidden}

-- every element passes
unfoldable pub all : {X : Type 0} → (X → Bool) → List X → Bool
all f [] = true
all f (x ∷ l) = f x && all f l

-- some element passes
unfoldable pub any : {X : Type 0} → (X → Bool) → List X → Bool
any f [] = false
any f (x ∷ l) = f x || any f l

-- every number below n passes
unfoldable pub all_below : ℕ → (ℕ → Bool) → Bool
all_below zero f = true
all_below (suc n) f = f n && all_below n f

-- a term's kind and number
unfoldable pub kind : Term → ℕ
kind (constant c) = 0
kind (shown n) = 1
kind (hidden n) = 2

unfoldable pub number : Term → ℕ
number (constant c) = c
number (shown n) = n
number (hidden n) = n

unfoldable pub same : Term → Term → Bool
unfolding kind number
same t u = eqb (kind t) (kind u) && eqb (number t) (number u)
