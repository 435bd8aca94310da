-- What the label of a line is made from, and which partitions can answer the line.
use Rattle.std.specs.Prelude.{◌≡◌, List, ◌↔◌, ℕ, ◌≤◌, ◌<◌, length}
use Rattle.std.proofs.Math.Option.{some}
use Rattle.std.proofs.Math.ListN.{get_elem?}
use Rattle.theory.specs.Query.{◌∈◌}
use Rattle.theory.specs.Query.{Line as TheLine}
use Rattle.theory.specs.Cover.{Covers}
use Rattle.theory.specs.Executable.Label.{label}
use Rattle.words.specs.Bits.{bit}
use Rattle.model.specs.Limits.{most_views}
use Rattle.model.specs.Value.{line_value}
use Rattle.model.specs.Rows.{LaidAt}
use Rattle.covering.specs.Free.{FreeColumns}
use Rattle.covering.specs.Views.{OfTable, LaidViews}
use Rattle.covering.specs.Prepared.{table_word, grant_word, table_width, free_word}
use Rattle.covering.specs.declared.LineLabel.{LineLabel}

-- what is prepared has the rows of the views, and the word and the columns of the line's table; row a of lines has the line
pub record Labelled (r lines : List ℕ) (a : ℕ) (views : List TheLine) (A : TheLine) : Type 0 where
  pub few : length views ≤ most_views
  pub laid : LaidViews r views
  pub line : LaidAt lines a (line_value A)
  pub bits : OfTable views A.table (table_word r A.table)
  pub line_width : length A.columns ≡ table_width r A.table
  pub view_widths : (v : TheLine) → v ∈ views → v.table ≡ A.table → length v.columns ≡ table_width r A.table
  pub free : (k : ℕ) → k < most_views → FreeColumns r k (free_word r k)

-- the word has the partitions that grant one of the views which cover the line
abbrev pub Reached : List ℕ → List TheLine → TheLine → ℕ → Type 0
Reached r views A w =
    (i : ℕ) → (bit w i ≡ 1)
    ↔ ((k : ℕ) × (v : TheLine) × (get_elem? views k ≡ some v) × Covers v A × (bit (grant_word r k) i ≡ 1))

-- the label of the line in row a, and the partitions that can answer it
abbrev pub LabelGiven : List ℕ → List ℕ → ℕ → LineLabel → Type 0
LabelGiven r lines a l =
    (views : List TheLine) (A : TheLine) → Labelled r lines a views A → (l.label ≡ label views A) × Reached r views A l.grants
