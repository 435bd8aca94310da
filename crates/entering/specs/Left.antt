-- What is left of a query, as the bits of a word.
use Rattle.std.specs.Prelude.{Bool, cond, List, [], ◌∷◌, ℕ, suc}
use Rattle.theory.specs.Query.{Term, Query}
use Rattle.theory.specs.Reduce.{Sends}
use Rattle.words.specs.Bits.{is_set}

-- the elements at the places that pass a test
unfoldable pub pick : {X : Type 0} → (ℕ → Bool) → List X → List X
pick f [] = []
pick f (x ∷ l) = cond (f 0) (x ∷ pick (λ k. f (suc k)) l) (pick (λ k. f (suc k)) l)

-- the lines at the bits of a word
unfoldable pub lines_at : ℕ → Query → Query
unfolding pick
lines_at w Q = pick (is_set w) Q

-- some map sends every line to one of those left
abbrev pub Folds : Query → ℕ → Type 0
Folds Q w = (m : ℕ → Term) × Sends m Q (lines_at w Q)
