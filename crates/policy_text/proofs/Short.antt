-- The text of a well-formed value is within the length limit. Coarse bounds suffice: each term is taken to have the most digits.
use mathlib.Core.Path.{subst, sym}
use mathlib.Core.List.{List, [], ◌∷◌, ◌++◌}
use Prim.Native.Nat.{ℕ, suc, ◌+◌, ◌-◌, ◌*◌, ◌^◌, ◌≤◌, ◌<◌}
use native.Mathlib.Nat.{le_trans, mul-le-mul_right}
use native.Mathlib.Omega.{arith}
use lib.ListN.{length, length-map}
use Rattle.theory.specs.Query.{◌∈◌}
use Rattle.text.specs.Names.{table_columns, view_table_terms, partition_views}
use Rattle.text.specs.Print.{decimal, end_each}
use Rattle.text.proofs.Each.{each_nil, each_cons, each_map}
use Rattle.text.proofs.Decimals.{length_iff}
use Rattle.text.proofs.Joined.{Within, length_joined, length_ended, length_parts}
use Rattle.model.specs.Limits.{most_columns, most_tables, most_views, most_partitions}
use Rattle.model.specs.Print.{table_fields, line_fields, partition_fields, print_line}
use Rattle.model.proofs.Printed.{view_line_bytes, view_short}
use Rattle.policy_text.specs.Declared.{Declared}
use Rattle.policy_text.specs.WellFormed.{OneToMost, GoodWidth, WellFormed}
use Rattle.policy_text.specs.Print.{print_block, print_lines, print}
use Rattle.policy_text.specs.Text.{most_policy_bytes}
use Rattle.policy_text.proofs.Blocks.{block_line, length_block}
use Rattle.policy_text.proofs.Sizes.{view_size, PartitionSize, partition_size}
use Rattle.model.proofs.Limits.{up_to_iff}

-- no number of a table, view or partition has more digits: three serve every limit below 1,000
abbrev number_digits : ℕ
number_digits = 3

number_short : (n : ℕ) → n < 10 ^ number_digits → Within number_digits (decimal n)
number_short n h = (length_iff (number_digits - 1) n).0 h

-- a block of at most `most` lines of which each is within m
block_short : {X : Type 0} (fields_of : X → List (List ℕ)) (most m : ℕ) (Good : X → Type 0) (l : List X)
    → most < 10 ^ number_digits → OneToMost most Good l
    → ((n : ℕ) (x : X) → n < 10 ^ number_digits → Good x → Within m (print_line n (fields_of x)))
    → length (end_each (print_block fields_of 1 l)) ≤ most * suc m
block_short fields_of most m Good l small h short =
    le_trans (rw length_block at (length_ended m (print_block fields_of 1 l) each)) (mul-le-mul_right (suc m) h.few)
  where
    each : (line : List ℕ) → line ∈ print_block fields_of 1 l → Within m line
    each line i =
        let r = block_line fields_of 1 l line i in
        subst (Within m) (sym r.printed) (short r.number r.value (omega arith) (h.each r.value r.member))

-- ---- the lines of the three blocks

-- numerals, and a space before each but the first
abbrev table_line_bytes : ℕ
table_line_bytes = number_digits + suc number_digits

abbrev partition_line_bytes : ℕ
partition_line_bytes = number_digits + most_views * suc number_digits

table_short : (n w : ℕ) → n < 10 ^ number_digits → GoodWidth w → Within table_line_bytes (print_line n (table_fields w))
unfolding print_line table_fields
table_short n w h g =
    let k = (up_to_iff most_columns w).0 g in
    length_joined number_digits (decimal n) (decimal w ∷ [])
    (each_cons (Within number_digits) (decimal n) _ (number_short n h)
    (each_cons (Within number_digits) (decimal w) [] (number_short w (omega arith)) (each_nil (Within number_digits))))

partition_short : (n : ℕ) (vs : List ℕ) → n < 10 ^ number_digits → PartitionSize vs
    → Within partition_line_bytes (print_line n (partition_fields vs))
unfolding print_line partition_fields
partition_short n vs h s =
    le_trans
    (length_joined number_digits (decimal n) (partition_fields vs)
    (each_cons (Within number_digits) (decimal n) _ (number_short n h)
    (each_map (Within number_digits) decimal vs (λ v m. let k = s.numbers v m in number_short v (omega arith)))))
    (simp length-map (omega arith))

pub print_short : (d : Declared) → WellFormed d → length (print d) ≤ most_policy_bytes
unfolding print print_lines end_each table_columns view_table_terms partition_views
print_short d w =
    let a = block_short table_fields most_tables table_line_bytes _ d.widths (omega arith) w.tables table_short in
    let b = block_short line_fields most_views view_line_bytes _ d.views (omega arith) w.views
    (λ n A h g. let s = view_size d.widths A w.tables g in view_short n A (omega arith) s.writable s.most) in
    let c = block_short partition_fields most_partitions partition_line_bytes _ d.partitions (omega arith) w.partitions
    (λ n vs h g. partition_short n vs h (partition_size (length d.views) vs g)) in
    let p = partition_views ∷ print_block partition_fields 1 d.partitions in
    let v = view_table_terms ∷ print_block line_fields 1 d.views in
    omega (arith, length_parts (table_columns ∷ print_block table_fields 1 d.widths) (v ++ p), length_parts v p)
