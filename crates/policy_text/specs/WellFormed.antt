-- Document 01, "The texts" and the limits: what a policy text declares that loading accepts, told by what is declared alone.
use Rattle.std.specs.Prelude.{Bool, true, ◌&&◌, List, [], ◌∷◌, ℕ, ◌≤◌, T, ltb, length}
use Rattle.theory.specs.Query.{Line, ◌∈◌, NoClash, Fits}
use Rattle.model.specs.Limits.{most_tables, most_columns, most_views, most_partitions, up_to, line_within}
use Rattle.policy_text.specs.Declared.{Declared}

-- "one or more lines of values", no more than the most, and each as it should be
pub record OneToMost {X : Type 0} (most : ℕ) (Good : X → Type 0) (l : List X) : Type 0 where
  pub nonempty : 1 ≤ length l
  pub few : length l ≤ most
  pub each : (x : X) → x ∈ l → Good x

-- "columns 1 to 8"
abbrev pub GoodWidth : ℕ → Type 0
GoodWidth w = T (up_to most_columns w)

-- numbers within their limits (2), a table that is declared and as many terms as it has columns (4, 5), and no variable number both
-- shown and hidden (6)
pub record GoodView (widths : List ℕ) (A : Line) : Type 0 where
  pub within : T (line_within A)
  pub fits : Fits widths A
  pub clear : NoClash (A ∷ [])

-- "Views in a partition ascend strictly."
unfoldable pub ascend : List ℕ → Bool
ascend [] = true
ascend (v ∷ []) = true
ascend (v ∷ w ∷ l) = ltb v w && ascend (w ∷ l)

-- numbers within their limits (2), ascending (3), of views that are declared (4): of a policy with that many views
pub record GoodPartition (views : ℕ) (vs : List ℕ) : Type 0 where
  pub within : (v : ℕ) → v ∈ vs → T (up_to most_views v)
  pub ascending : T (ascend vs)
  pub declared : (v : ℕ) → v ∈ vs → v ≤ views

pub record WellFormed (d : Declared) : Type 0 where
  pub tables : OneToMost most_tables GoodWidth d.widths
  pub views : OneToMost most_views (GoodView d.widths) d.views
  pub partitions : OneToMost most_partitions (GoodPartition (length d.views)) d.partitions
