-- The marked rows in the buffer.
use Rattle.std.specs.Prelude.{◌≡◌, ◌⊎◌, List, ◌++◌, ℕ, ◌+◌, ◌≤◌, length}
use Rattle.std.proofs.Math.Option.{some}
use Rattle.std.proofs.Math.ListN.{get_elem?}
use Rattle.theory.specs.Query.{Line, Fits, ◌∈◌}
use Rattle.theory.specs.Archive.{Row, row}
use Rattle.theory.specs.Apart.{NoRepeats}
use Rattle.theory.proofs.Determine.Block.{mark_by, ExtraRows}
use Rattle.model.specs.declared.Tables.{Tables}
use Rattle.policy_text.specs.Declared.{Declared}
use Rattle.labelling.specs.Posed.{Ready}
use Rattle.labelling.specs.Settled.{granted}
use Rattle.freezing.specs.Cells.{cells_of}
use Rattle.freezing.specs.Rows.{Beside}
use Rattle.apart.specs.Buffer.{Holds}

-- ---- one view

-- the view's marked row is among the extra rows then, if the view matches the odd row, and no other row is new
pub record Adds (base : ℕ) (v : Line) (odd : Row) (extra then : List Row) : Type 0 where
  pub kept : (x : Row) → x ∈ extra → x ∈ then
  pub each : (s h : ℕ → ℕ) → row s h v ≡ odd → row s (mark_by base v) v ∈ then
  pub only : (x : Row) → x ∈ then
      → (x ∈ extra) ⊎ ((s : ℕ → ℕ) × (h : ℕ → ℕ) × (row s h v ≡ odd) × (x ≡ row s (mark_by base v) v))
  pub once : NoRepeats extra → NoRepeats then

-- the view in row k is beside the odd row, and the buffer has the rows `head` and then the extra ones, which are as wide as the odd row
pub record RowsBefore (r : List ℕ) (k : ℕ) (cells : List ℕ) (from count : ℕ) (before : List ℕ) (v : Line) (odd : Row) (start : List ℕ)
    (head extra : List Row) : Type 0 where
  pub beside : Beside r k v cells odd
  pub first : length head ≡ from
  pub last : length (head ++ extra) ≡ count
  pub holds : Holds start (head ++ extra) before
  pub wide : (x : Row) → x ∈ extra → length x.columns ≡ length odd.columns

-- at most one row more
pub record ViewPut (base : ℕ) (r : List ℕ) (k : ℕ) (cells : List ℕ) (from count : ℕ) (before after : List ℕ) (n : ℕ) : Type 0 where
  pub least : count ≤ n
  pub most : n ≤ count + 1
  pub rows : (v : Line) (odd : Row) (start : List ℕ) (head extra : List Row) → RowsBefore r k cells from count before v odd start head extra
      → (then : List Row) × (n ≡ length (head ++ then)) × Holds start (head ++ then) after × Adds base v odd extra then

-- ---- the views of a partition

-- the cells are those of a row of one of the policy's tables
abbrev pub SomeMarking : List ℕ → List ℕ → Type 0
SomeMarking r cells = (d : Declared) × (t : Tables) × (odd : Row) × Ready d t r × Fits d.widths odd × (cells ≡ cells_of odd)

-- the marked rows of its views, behind the rows `head`
pub record MarkedBehind (base : ℕ) (vs : List Line) (odd : Row) (start : List ℕ) (head : List Row) (after : List ℕ) (n : ℕ) : Type 0 where
  pub extra : List Row
  pub count : n ≡ length (head ++ extra)
  pub few : length extra ≤ 32
  pub holds : Holds start (head ++ extra) after
  pub once : NoRepeats extra
  pub rows : ExtraRows base vs odd extra

abbrev pub MarkedPut : ℕ → List ℕ → ℕ → List ℕ → ℕ → List ℕ → List ℕ → ℕ → Type 0
MarkedPut base r i cells from before after n =
    (d : Declared) (t : Tables) (ns : List ℕ) (odd : Row) → Ready d t r → get_elem? d.partitions i ≡ some ns → Fits d.widths odd
    → cells ≡ cells_of odd → (start : List ℕ) (head : List Row) → length head ≡ from → Holds start head before
    → MarkedBehind base (granted d.views ns) odd start head after n
