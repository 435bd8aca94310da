-- The rows of both archives in the buffer.
use Rattle.std.specs.Prelude.{◌≡◌, List, [], ◌∷◌, map, ℕ, ◌≤◌, ◌<◌, length}
use Rattle.std.proofs.Math.Option.{some}
use Rattle.std.proofs.Math.ListN.{get_elem?}
use Rattle.theory.specs.Query.{Query}
use Rattle.theory.specs.Archive.{Row}
use Rattle.theory.proofs.Determine.Block.{frozen_row}
use Rattle.model.specs.Limits.{most_lines}
use Rattle.model.specs.declared.Tables.{Tables}
use Rattle.query_text.specs.WellRead.{WellRead}
use Rattle.policy_text.specs.Declared.{Declared}
use Rattle.entering.specs.Agree.{line_at}
use Rattle.entering.specs.Left.{lines_at}
use Rattle.labelling.specs.Posed.{Ready, ShownIn}
use Rattle.freezing.specs.Rows.{HasLine}
use Rattle.apart.specs.Archives.{ToldApart}
use Rattle.apart.specs.Buffer.{Holds}
use Rattle.apart.specs.Unsettled.{Unsettled}

-- ---- the lines of a word

-- n rows have the lines S
pub record HasLines (S : Query) (n : ℕ) (lines : List ℕ) : Type 0 where
  pub count : length S ≡ n
  pub few : n ≤ most_lines
  pub line : (k : ℕ) → k < n → HasLine lines k (line_at S k)

abbrev pub SomeLines : ℕ → List ℕ → Type 0
SomeLines n lines = (S : Query) × HasLines S n lines

-- those at the bits of a word, frozen, behind one row
abbrev pub LinesPut : ℕ → ℕ → List ℕ → ℕ → List ℕ → List ℕ → ℕ → Type 0
LinesPut base n lines others before after r =
    (S : Query) → HasLines S n lines → (start : List ℕ) (odd : Row) → Holds start (odd ∷ []) before →
    let rows = odd ∷ map (frozen_row base) (lines_at others S) in (r ≡ length rows) × Holds start rows after

-- ---- both archives

-- a well-formed query whose reduced form, shared variables shown, is left in the rows, and a line of it that the partition at place i has
-- no view for
pub record OddLine (d : Declared) (t : Tables) (ns : List ℕ) (Q : Query) (r : List ℕ) (i n : ℕ) (lines : List ℕ) (left k : ℕ) : Type 0 where
  pub ready : Ready d t r
  pub partition : get_elem? d.partitions i ≡ some ns
  pub query : WellRead d.widths Q
  pub count : length Q ≡ n
  pub shown : ShownIn d Q left lines
  pub unsettled : Unsettled d Q left k ns

abbrev pub SomeOdd : List ℕ → ℕ → ℕ → List ℕ → ℕ → ℕ → Type 0
SomeOdd r i n lines left k = (d : Declared) × (t : Tables) × (ns : List ℕ) × (Q : Query) × OddLine d t ns Q r i n lines left k

-- rows that tell the query apart
abbrev pub ArchivesPut : List ℕ → ℕ → ℕ → List ℕ → ℕ → ℕ → List ℕ → List ℕ → ℕ → Type 0
ArchivesPut r i n lines left k before after count =
    (d : Declared) (t : Tables) (ns : List ℕ) (Q : Query) → OddLine d t ns Q r i n lines left k → ToldApart d i Q count before after
