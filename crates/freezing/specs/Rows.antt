-- A line as a row of an archive, which views match that row, and the marks of a view's hidden variables.
use Rattle.std.specs.Prelude.{◌≡◌, Bool, true, cond, List, ℕ, ◌+◌, ◌≤◌, ◌<◌, ltb, length}
use Rattle.theory.specs.Query.{Line, ◌∈◌, shown, hidden}
use Rattle.theory.specs.Archive.{Row, row}
use Rattle.theory.proofs.Match.{Matches}
use Rattle.theory.proofs.Determine.Block.{variables, frozen_row, mark_by}
use Rattle.model.specs.Limits.{most_columns, last_variable}
use Rattle.model.specs.Rows.{laid_term, LaidAt}
use Rattle.model.specs.Value.{line_value}
use Rattle.model.specs.declared.Term.{Term}
use Rattle.freezing.specs.Cells.{cells_of}

-- ---- a line frozen

-- a constant is itself, a variable its number in the block
unfoldable pub frozen_term : ℕ → Term → ℕ
frozen_term base t = cond (ltb 1 t.mark) (base + t.number) t.number

-- a variable's number is within its limit
abbrev pub SmallTerm : Term → Type 0
SmallTerm t = 1 < t.mark → t.number ≤ last_variable

-- row i has the line, whose variables are within their limit
pub record HasLine (rows : List ℕ) (i : ℕ) (A : Line) : Type 0 where
  pub line : LaidAt rows i (line_value A)
  pub columns : length A.columns ≤ most_columns
  pub small_shown : (n : ℕ) → shown n ∈ A.columns → n ≤ last_variable
  pub small_hidden : (n : ℕ) → hidden n ∈ A.columns → n ≤ last_variable

abbrev pub SomeLine : List ℕ → ℕ → Type 0
SomeLine rows i = (A : Line) × HasLine rows i A

-- the line's row by a block of numbers
abbrev pub LineFrozen : ℕ → List ℕ → ℕ → List ℕ → Type 0
LineFrozen base lines i cells = (A : Line) → HasLine lines i A → cells ≡ cells_of (frozen_row base A)

-- ---- a view beside a row

-- q is the first column of row k that has the term of column p
pub record FirstAlike (rows : List ℕ) (k p q : ℕ) : Type 0 where
  pub upto : q ≤ p
  pub same : laid_term rows k q ≡ laid_term rows k p
  pub least : (j : ℕ) → j < q → laid_term rows k j ≡ laid_term rows k p → ⊥

-- row k has the view, and the cells are those of a row of the view's table
pub record Beside (views : List ℕ) (k : ℕ) (v : Line) (cells : List ℕ) (r : Row) : Type 0 where
  pub view : LaidAt views k (line_value v)
  pub columns : length v.columns ≤ most_columns
  pub are : cells ≡ cells_of r
  pub table : v.table ≡ r.table
  pub width : length v.columns ≡ length r.columns

-- whether some valuation turns the view into the row
pub record Matched (v : Line) (r : Row) (b : Bool) : Type 0 where
  pub matches : b ≡ true → Matches v r
  pub said : Matches v r → b ≡ true

abbrev pub MatchGiven : List ℕ → ℕ → List ℕ → Bool → Type 0
MatchGiven views k cells b = (v : Line) (r : Row) → Beside views k v cells r → Matched v r b

-- what becomes of the value under a view's term that stands first in column q
pub record CellMarked (base : ℕ) (t : Term) (q old new : ℕ) : Type 0 where
  pub hides : t.mark ≡ 3 → new ≡ base + variables + q
  pub stays : (t.mark ≡ 3 → ⊥) → new ≡ old

-- the view's row again, its hidden variables marked
abbrev pub MarkedGiven : ℕ → List ℕ → ℕ → List ℕ → List ℕ → Type 0
MarkedGiven base views k cells marked =
    (v : Line) (r : Row) → Beside views k v cells r → (s h : ℕ → ℕ) → row s h v ≡ r → marked ≡ cells_of (row s (mark_by base v) v)
