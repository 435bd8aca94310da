-- Document 01, "Cover": the rules on the code's values, at two columns and for rows of numbers.
use Rattle.std.specs.Prelude.{◌≡◌, Bool, List, ℕ, ◌<◌, length}
use Rattle.theory.specs.Query.{Term as TheTerm, Line as TheLine}
use Rattle.theory.specs.Executable.Cover.{obeys, covers}
use Rattle.words.specs.Bits.{bit}
use Rattle.model.specs.Value.{term_value, line_value}
use Rattle.model.specs.Rows.{LaidAt}
use Rattle.model.specs.declared.Term.{Term}
use Rattle.covering.specs.Free.{FreeAt}

-- the three rules at two columns, where the view has the terms v and w and the line a and b
abbrev pub Obeys : (v w a b : Term) → Bool → Type 0
Obeys v w a b r =
    (t u x y : TheTerm) → v ≡ term_value t → w ≡ term_value u → a ≡ term_value x → b ≡ term_value y → r ≡ obeys t u x y

-- whether the view in row v covers the line in row a of other rows, both of one table with `width` columns, those outside `bound` free
abbrev pub CoversRow : ℕ → ℕ → List ℕ → ℕ → List ℕ → ℕ → Bool → Type 0
CoversRow bound width views v lines a r =
    (view line : TheLine) → LaidAt views v (line_value view) → LaidAt lines a (line_value line) → view.table ≡ line.table
    → length view.columns ≡ width → length line.columns ≡ width
    → ((p : ℕ) → p < width → bit bound p ≡ 0 → FreeAt views v p) → r ≡ covers view line
