-- What a policy text declares, and document 01, "Determining": which queries a partition of it determines.
use Rattle.std.specs.Prelude.{◌≡◌, List, ℕ, ◌-◌, ◌≤◌}
use Rattle.std.proofs.Math.Option.{some}
use Rattle.std.proofs.Math.ListN.{get_elem?}
use Rattle.theory.specs.Query.{Line, Query, ◌∈◌}
use Rattle.theory.specs.Archive.{DeterminedBy}

-- the text's tables (their columns), views and partitions (the numbers of their views), in file order
pub record Declared : Type 0 where
  pub widths : List ℕ
  pub views : List Line
  pub partitions : List (List ℕ)

-- v is one of the views of partition n, which is counted from 0: the partition lists the view's number, counted from 1
pub record Grants (d : Declared) (n : ℕ) (v : Line) : Type 0 where
  pub numbers : List ℕ
  pub partition : get_elem? d.partitions n ≡ some numbers
  pub number : ℕ
  pub listed : number ∈ numbers
  pub from_one : 1 ≤ number
  pub view : get_elem? d.views (number - 1) ≡ some v

-- "A partition determines a query when any two archives that agree on each of its views give the query, as handed in and not yet
-- reduced, the same set of answers."
abbrev pub PartitionDetermines : Declared → ℕ → Query → Type 0
PartitionDetermines d n Q = DeterminedBy d.widths (Grants d n) Q
