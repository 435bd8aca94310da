-- The columns of a row that has a line: its terms, and unused ones behind them.
use mathlib.Core.Path.{◌≡◌, ◌∙◌}
use mathlib.Core.Logic.{◌⊎◌, inl, inr}
use mathlib.Core.List.{List}
use Prim.Native.Nat.{ℕ, ◌≤◌, ◌<◌}
use native.Mathlib.Decide.{dec_lt}
use native.Mathlib.Omega.{arith}
use lib.ListN.{length}
use Rattle.theory.specs.Query.{Line}
use Rattle.theory.specs.Cover.{at}
use Rattle.model.specs.Limits.{most_columns}
use Rattle.model.specs.Value.{unused_term, term_value, line_value}
use Rattle.model.specs.Rows.{laid_term, LaidAt}
use Rattle.model.proofs.LineValues.{used, unused}

-- column p of row k has a term of the line, or is unused
abbrev pub LineColumn : List ℕ → ℕ → Line → ℕ → Type 0
LineColumn rows k A p =
    ((p < length A.columns) × (laid_term rows k p ≡ term_value (at A p)))
    ⊎ ((length A.columns ≤ p) × (laid_term rows k p ≡ unused_term))

module _ {rows : List ℕ} {k : ℕ} (A : Line) (laid : LaidAt rows k (line_value A)) (few : length A.columns ≤ most_columns) where
  pub laid_used : (p : ℕ) → p < length A.columns → laid_term rows k p ≡ term_value (at A p)
  laid_used p h = laid.term p (omega arith) ∙ used A few p h

  pub laid_column : (p : ℕ) → p < most_columns → LineColumn rows k A p
  laid_column p b = go (dec_lt p (length A.columns))
    where
      go : Dec (p < length A.columns) → LineColumn rows k A p
      go (yes h) = inl (h, laid_used p h)
      go (no f) = inr (omega arith, laid.term p b ∙ unused A few p (omega arith))
