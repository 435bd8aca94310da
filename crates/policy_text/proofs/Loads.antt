-- A policy value is what some text loads to exactly when it is well formed: the text of a well-formed value loads to it.
use mathlib.Core.Path.{◌≡◌, refl, ap, ◌∙◌}
use mathlib.Core.Logic.{◌↔◌}
use mathlib.Core.Bool.{false}
use mathlib.Core.List.{List, [], ◌∷◌, ◌++◌, append-nil}
use Prim.Native.Nat.{ℕ, suc, ◌≤◌, ◌<◌}
use native.Mathlib.Omega.{arith}
use lib.ListN.{length}
use borrow.Author.Tests.{le-ltb}
use Rattle.theory.specs.Query.{Line}
use Rattle.text.specs.Lines.{lines, same_bytes}
use Rattle.text.specs.Names.{table_columns, view_table_terms, partition_views}
use Rattle.model.specs.Fields.{Numbered}
use Rattle.model.specs.Limits.{most_columns, most_tables, most_views, most_partitions}
use Rattle.model.specs.Print.{table_fields, line_fields, partition_fields, print_line}
use Rattle.model.proofs.Printed.{table_printed, view_printed, partition_printed}
use Rattle.policy_text.specs.Text.{nothing, accepted, most_policy_bytes, entered, tables, views, partitions, enter, is_next, next_block, policy_ends, load_from, load_lines, load}
use Rattle.policy_text.specs.Declared.{Declared}
use Rattle.policy_text.specs.WellFormed.{OneToMost, GoodWidth, GoodView, GoodPartition, WellFormed}
use Rattle.policy_text.specs.Print.{print_block, print_lines, print}
use Rattle.model.proofs.Limits.{up_to_iff}
use Rattle.policy_text.proofs.Faults.{table_taken, view_taken, partition_taken}
use Rattle.policy_text.proofs.Blocks.{lines_printed}
use Rattle.policy_text.proofs.Sizes.{view_size, partition_size}
use Rattle.policy_text.proofs.Walk.{block_loads}
use Rattle.policy_text.proofs.Short.{print_short}
use Rattle.policy_text.proofs.Loaded.{loaded_well_formed, loaded_printed}

-- ---- the printed line of a good value that is next in turn declares it

table_enters : (d : Declared) (w : ℕ) → length d.widths < most_tables → GoodWidth w
    → enter tables d (print_line (suc (length d.widths)) (table_fields w))
    ≡ entered (record { widths = d.widths ++ w ∷ []; views = d.views; partitions = d.partitions })
unfolding enter
table_enters d w h g =
    let k = (up_to_iff most_columns w).0 g in
    let n = suc (length d.widths) in
    let e : Numbered ℕ = record { number = n; value = w } in
    rw (table_printed n w (omega arith) (omega arith), (table_taken d e).1 (record { turn = refl; limit = h; good = g }))

view_enters : (d : Declared) (A : Line) → OneToMost most_tables GoodWidth d.widths
    → length d.views < most_views → GoodView d.widths A
    → enter views d (print_line (suc (length d.views)) (line_fields A))
    ≡ entered (record { widths = d.widths; views = d.views ++ A ∷ []; partitions = d.partitions })
unfolding enter
view_enters d A ts h g =
    let s = view_size d.widths A ts g in
    let n = suc (length d.views) in
    let e : Numbered Line = record { number = n; value = A } in
    rw (
      view_printed n A (omega arith) s.writable s.least,
      (view_taken d e).1 (record { turn = refl; limit = h; good = g }),
    )

partition_enters : (d : Declared) (vs : List ℕ)
    → length d.partitions < most_partitions → GoodPartition (length d.views) vs
    → enter partitions d (print_line (suc (length d.partitions)) (partition_fields vs))
    ≡ entered (record { widths = d.widths; views = d.views; partitions = d.partitions ++ vs ∷ [] })
unfolding enter
partition_enters d vs h g =
    let s = partition_size (length d.views) vs g in
    let n = suc (length d.partitions) in
    let e : Numbered (List ℕ) = record { number = n; value = vs } in
    rw (
      partition_printed n vs (omega arith) (λ v m. let k = s.numbers v m in omega arith),
      (partition_taken d e).1 (record { turn = refl; limit = h; good = g }),
    )

-- ---- the blocks, the last first

partitions_load : (d : Declared) → WellFormed d → (k : ℕ)
    → load_from partitions false (record { widths = d.widths; views = d.views; partitions = [] }) k
    (print_block partition_fields 1 d.partitions) [] ≡ accepted d
unfolding load_from policy_ends
partitions_load d w k =
    rw append-nil at
    (block_loads partitions put partition_fields most_partitions (GoodPartition (length d.views))
    (λ done. partition_enters (put done)) [] [] d d.partitions w.partitions (λ j. refl) k)
  where
    put : List (List ℕ) → Declared
    put done = record { widths = d.widths; views = d.views; partitions = done }

views_load : (d : Declared) → WellFormed d → (k : ℕ)
    → load_from views false (record { widths = d.widths; views = []; partitions = [] }) k
    (print_block line_fields 1 d.views ++ partition_views ∷ print_block partition_fields 1 d.partitions) [] ≡ accepted d
unfolding load_from is_next next_block same_bytes partition_views
views_load d w k =
    block_loads views put line_fields most_views (GoodView d.widths) (λ done A. view_enters (put done) A w.tables)
    (partition_views ∷ print_block partition_fields 1 d.partitions) [] d d.views w.views
    (λ j. partitions_load d w (suc j)) k
  where
    put : List Line → Declared
    put done = record { widths = d.widths; views = done; partitions = [] }

lines_load : (d : Declared) → WellFormed d → load_lines (print_lines d) [] ≡ accepted d
unfolding load_lines print_lines nothing load_from is_next next_block same_bytes table_columns view_table_terms
lines_load d w =
    block_loads tables put table_fields most_tables GoodWidth (λ done. table_enters (put done))
    (view_table_terms ∷ print_block line_fields 1 d.views ++ partition_views ∷ print_block partition_fields 1 d.partitions) []
    d d.widths w.tables (λ j. views_load d w (suc j)) 2
  where
    put : List ℕ → Declared
    put done = record { widths = done; views = []; partitions = [] }

-- ---- the theorems

load_lines_lem : (text : List ℕ) (ls : List (List ℕ)) → length text ≤ most_policy_bytes → lines text ≡ record { ended = ls; rest = [] }
    → load text ≡ load_lines ls []
unfolding load
load_lines_lem text ls h e = rw (le-ltb most_policy_bytes (length text) h, e)

pub print_loads : (d : Declared) → WellFormed d → load (print d) ≡ accepted d
print_loads d w = load_lines_lem (print d) (print_lines d) (print_short d w) (lines_printed d) ∙ lines_load d w

-- "a policy value that no loading gives" is one that is not well formed
pub loadable_iff : (d : Declared) → ((text : List ℕ) × (load text ≡ accepted d)) ↔ WellFormed d
loadable_iff d = (λ r. loaded_well_formed r.0 d r.1, λ w. (print d, print_loads d w))

-- a text loads to d exactly when d is well formed and the text is d printed
pub loads_exactly : (text : List ℕ) (d : Declared) → (load text ≡ accepted d) ↔ (WellFormed d × (text ≡ print d))
loads_exactly text d = (
  λ e. (loaded_well_formed text d e, loaded_printed text d e),
  λ r. ap load r.1 ∙ print_loads d r.0,
)
