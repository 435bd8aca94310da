-- The variables of lines as bits of two words.
use Rattle.std.specs.Prelude.{◌≡◌, ◌↔◌, List, ℕ, ◌≤◌}
use Rattle.theory.specs.Query.{Term, shown, hidden, Line, ◌∈◌}
use Rattle.words.specs.Bits.{bit}
use Rattle.model.specs.Limits.{last_variable}

-- bit n of the word is set exactly when the variable that `mark` makes of n stands in one of the lines
abbrev pub Bits : (ℕ → Term) → List Line → ℕ → Type 0
Bits mark lines word = (n : ℕ) → n ≤ last_variable → (bit word n ≡ 1) ↔ ((A : Line) × (A ∈ lines) × (mark n ∈ A.columns))

-- the shown and the hidden variables of the lines
pub record Marked (lines : List Line) (s h : ℕ) : Type 0 where
  pub shown_bits : Bits shown lines s
  pub hidden_bits : Bits hidden lines h
