-- Blocks of numbers, and those in which a constant of some rows stands.
use Rattle.std.specs.Prelude.{◌≡◌, ◌⊎◌, List, ℕ, ◌+◌, ◌*◌, ◌/◌, ◌≤◌, ◌<◌, length, get_or}
use Rattle.theory.specs.Query.{◌∈◌}
use Rattle.theory.proofs.Determine.Block.{block_long}
use Rattle.model.specs.Limits.{most_columns, most_views, most_lines}
use Rattle.model.specs.Rows.{laid_term}

-- one block more than there are terms
abbrev pub most_terms : ℕ
most_terms = (most_views + most_lines) * most_columns

abbrev pub most_blocks : ℕ
most_blocks = most_terms + 1

-- where the last of these blocks begins
abbrev pub last_base : ℕ
last_base = most_terms * block_long

-- block b is taken
abbrev pub IsTaken : List ℕ → ℕ → Type 0
IsTaken taken b = get_or taken b 0 ≡ 0 → ⊥

-- after a part of the rows, the columns of which are told by a property, is looked at: the blocks in which a constant of theirs stands
-- are taken beside those that were, and no others; the new ones are at most as many as the columns
pub record Takes (rows : List ℕ) (LooksAt : (k p : ℕ) → Type 0) (columns : ℕ) (before after : List ℕ) : Type 0 where
  pub long : length after ≡ length before
  pub kept : (b : ℕ) → IsTaken before b → IsTaken after b
  pub constants : (k p : ℕ) → LooksAt k p → p < most_columns → (laid_term rows k p).mark ≡ 1
      → (laid_term rows k p).number / block_long < most_blocks → IsTaken after ((laid_term rows k p).number / block_long)
  pub new : List ℕ
  pub few : length new ≤ columns
  pub only : (b : ℕ) → IsTaken after b → IsTaken before b ⊎ (b ∈ new)

-- row k
abbrev pub RowTaken : List ℕ → ℕ → List ℕ → List ℕ → Type 0
RowTaken rows k before after = Takes rows (λ i p. i ≡ k) most_columns before after

-- the first rows
abbrev pub RowsTaken : List ℕ → ℕ → List ℕ → List ℕ → Type 0
RowsTaken rows count before after = Takes rows (λ i p. i < count) (count * most_columns) before after

-- no constant of the first rows is one of the block's numbers
abbrev pub SparedRows : ℕ → List ℕ → ℕ → Type 0
SparedRows base rows count =
    (k p : ℕ) → k < count → p < most_columns → (laid_term rows k p).mark ≡ 1
    → ((laid_term rows k p).number < base) ⊎ (base + block_long ≤ (laid_term rows k p).number)

-- the first number of a block that the rows of the views and of the lines spare
pub record SpareFound (views lines : List ℕ) (base : ℕ) : Type 0 where
  pub low : base ≤ last_base
  pub of_views : SparedRows base views most_views
  pub of_lines : SparedRows base lines most_lines
