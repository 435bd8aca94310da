-- The views that a policy value holds: those of one table as a word, and their rows.
use Rattle.std.specs.Prelude.{◌≡◌, List, map, ◌↔◌, ℕ, ◌^◌, ◌≤◌, ◌<◌, length}
use Rattle.std.proofs.Math.Option.{some}
use Rattle.std.proofs.Math.ListN.{get_elem?}
use Rattle.theory.specs.Query.{Line as TheLine}
use Rattle.words.specs.Bits.{bit}
use Rattle.model.specs.Limits.{most_views}
use Rattle.model.specs.Value.{pad, unused_line, line_value}
use Rattle.model.specs.Rows.{LaidAt}
use Rattle.model.specs.declared.Policy.{Policy}

-- the policy holds these views and no other
pub record Holds (p : Policy) (views : List TheLine) : Type 0 where
  pub few : length views ≤ most_views
  pub is : p.views ≡ pad most_views unused_line (map line_value views)

-- bit k is set exactly where there is a view at place k, counted from 0, and it is of the table
abbrev pub OfTable : List TheLine → ℕ → ℕ → Type 0
OfTable views table mask =
    (k : ℕ) → (bit mask k ≡ 1) ↔ ((v : TheLine) × (get_elem? views k ≡ some v) × (v.table ≡ table))

-- tables are numbered from 1: an unused line is of table 0
pub record TableViews (p : Policy) (table mask : ℕ) : Type 0 where
  pub below : mask < 2 ^ most_views
  pub bits : 1 ≤ table → (views : List TheLine) → Holds p views → OfTable views table mask

-- the rows of views, view n in row n - 1
pub record LaidViews (rows : List ℕ) (views : List TheLine) : Type 0 where
  pub row : (k : ℕ) (v : TheLine) → get_elem? views k ≡ some v → LaidAt rows k (line_value v)
