-- How much a well-formed value holds: what is written of it stays within a numeral's digits and the text's length.
use mathlib.Core.Path.{refl}
use mathlib.Core.List.Memᴰ
use mathlib.Core.List.{List, [], ◌∷◌}
use Prim.Native.Nat.{ℕ, ◌+◌, ◌≤◌}
use native.Mathlib.Omega.{arith}
use lib.Dec.{T, ltb, ltb→lt}
use lib.ListN.{length}
use Rattle.theory.specs.Query.{Line, ◌∈◌}
use Rattle.theory.proofs.Executable.Test.{and_iff}
use Rattle.model.specs.Limits.{most_tables, most_columns, most_views}
use Rattle.policy_text.specs.WellFormed.{ascend, OneToMost, GoodWidth, GoodView, GoodPartition}
use Rattle.model.proofs.Limits.{up_to_iff}
use Rattle.model.proofs.Values.{width_is}
use Rattle.model.proofs.Printed.{Writable, within_writable}

-- a view's numbers, and its columns as many as some table's
pub record ViewSize (A : Line) : Type 0 where
  pub writable : Writable A
  pub least : 1 ≤ length A.columns
  pub most : length A.columns ≤ most_columns

pub view_size : (widths : List ℕ) (A : Line)
    → OneToMost most_tables GoodWidth widths → GoodView widths A → ViewSize A
view_size widths A tables g =
    let columns = (up_to_iff most_columns (length A.columns)).0 (width_is GoodWidth widths tables.each A g.fits) in
    record { writable = within_writable A g.within; least = columns.0; most = columns.1 }

-- numbers that ascend from v and end at or below the most
ascend_from : (most v : ℕ) (vs : List ℕ) → T (ascend (v ∷ vs)) → ((w : ℕ) → w ∈ v ∷ vs → w ≤ most) → v + length vs ≤ most
unfolding ascend
ascend_from most v [] h below = let k = below v (Memᴰ.head refl) in omega arith
ascend_from most v (w ∷ ws) h below =
    let k = (and_iff (ltb v w) _).0 h in
    let rest = ascend_from most w ws k.1 (λ u m. below u (Memᴰ.tail m)) in
    omega (arith, ltb→lt v w k.0)

-- numbers from 1 to the most that ascend are no more than the most
ascend_short : (most : ℕ) (vs : List ℕ) → T (ascend vs) → ((v : ℕ) → v ∈ vs → (1 ≤ v) × (v ≤ most)) → length vs ≤ most
ascend_short most [] h within = omega arith
ascend_short most (v ∷ vs) h within =
    let k = within v (Memᴰ.head refl) in
    omega (arith, ascend_from most v vs h (λ w m. (within w m).1))

pub record PartitionSize (vs : List ℕ) : Type 0 where
  pub numbers : (v : ℕ) → v ∈ vs → v ≤ most_views
  pub most : length vs ≤ most_views

pub partition_size : (views : ℕ) (vs : List ℕ) → GoodPartition views vs → PartitionSize vs
partition_size views vs g =
    record { numbers = λ v m. (within v m).1; most = ascend_short most_views vs g.ascending within }
  where
    within : (v : ℕ) → v ∈ vs → (1 ≤ v) × (v ≤ most_views)
    within v m = (up_to_iff most_views v).0 (g.within v m)
