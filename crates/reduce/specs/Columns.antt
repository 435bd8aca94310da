-- Columns by the rows of lines.
use Rattle.std.specs.Prelude.{◌≡◌, List, ℕ, ◌<◌}
use Rattle.model.specs.Limits.{most_columns}
use Rattle.model.specs.Rows.{laid_term}
use Rattle.model.specs.declared.Term.{Term}

-- q is a column, and the first of row b that has the term where one has
pub record FirstColumn (rows : List ℕ) (b : ℕ) (t : Term) (q : ℕ) : Type 0 where
  pub below : q < most_columns
  pub here : (p : ℕ) → p < most_columns → laid_term rows b p ≡ t → laid_term rows b q ≡ t
  pub first : (p : ℕ) → p < q → laid_term rows b p ≡ t → ⊥
