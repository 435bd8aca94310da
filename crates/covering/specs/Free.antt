-- A column of a view that has a shown variable, which no other column has: no rule of document 01's "Covering" can break there.
use Rattle.std.specs.Prelude.{◌≡◌, List, ℕ, ◌<◌}
use Rattle.words.specs.Bits.{bit}
use Rattle.model.specs.Limits.{most_columns}
use Rattle.model.specs.Rows.{laid_term}

-- column p of row k is free: mark 2 is that of a shown variable
pub record FreeAt (rows : List ℕ) (k p : ℕ) : Type 0 where
  pub there : p < most_columns
  pub shows : (laid_term rows k p).mark ≡ 2
  pub alone : (q : ℕ) → q < most_columns → laid_term rows k p ≡ laid_term rows k q → q ≡ p

-- the columns of a word are free
abbrev pub FreeColumns : List ℕ → ℕ → ℕ → Type 0
FreeColumns rows k w = (p : ℕ) → bit w p ≡ 1 → FreeAt rows k p
