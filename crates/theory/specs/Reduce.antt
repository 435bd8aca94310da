-- Document 01, "Reducing".
use Rattle.std.specs.Prelude.{List, [], ◌∷◌, ℕ, zero, suc, ◌<◌, length}
use Rattle.theory.specs.Query.{Term, constant, shown, hidden, over, Line, Query, ◌∈◌}

-- "some map of variables to terms keeps every constant and shown variable": m is what it makes of the hidden ones.
abbrev pub image : (m : ℕ → Term) → Term → Term
image m (constant c) = constant c
image m (shown n) = shown n
image m (hidden n) = m n

-- "and sends every line of the query to one of the lines left"
abbrev pub Sends : (m : ℕ → Term) → Query → Query → Type 0
Sends m Q R = (A : Line) → A ∈ Q → over (image m) A ∈ R

-- the list without its element at a place, counted from 0
abbrev pub without : {X : Type 0} → ℕ → List X → List X
without i [] = []
without zero (x ∷ l) = l
without (suc i) (x ∷ l) = x ∷ without i l

-- "A line may go": the one at place i
abbrev pub MayGo : Query → ℕ → Type 0
MayGo Q i = (i < length Q) × (m : ℕ → Term) × Sends m Q (without i Q)

-- "until none may go"
abbrev pub Reduced : Query → Type 0
Reduced Q = (i : ℕ) → MayGo Q i → ⊥

-- "Take such lines out until none may go."
pub data ReducesTo : Query → Query → Type 0 where
  done : {Q : Query} → Reduced Q → ReducesTo Q Q
  take_out : {Q R : Query} (i : ℕ) → MayGo Q i → ReducesTo (without i Q) R → ReducesTo Q R
