-- Document 01, "Policy: `table columns`, then `view table terms`, then `partition views`": the text of what is declared.
use Rattle.std.specs.Prelude.{List, [], ◌∷◌, ◌++◌, ℕ, suc}
use Rattle.text.specs.Names.{table_columns, view_table_terms, partition_views}
use Rattle.text.specs.Print.{end_each}
use Rattle.model.specs.Print.{table_fields, line_fields, partition_fields, print_line}
use Rattle.policy_text.specs.Declared.{Declared}

-- a block's lines of values: "numbered 1, 2, 3 and so on in file order", here from n on
unfoldable pub print_block : {X : Type 0} → (X → List (List ℕ)) → ℕ → List X → List (List ℕ)
unfolding print_line
print_block fields_of n [] = []
print_block fields_of n (x ∷ l) = print_line n (fields_of x) ∷ print_block fields_of (suc n) l

-- "Each block is a line of names, then one or more lines of values in that order."
unfoldable pub print_lines : Declared → List (List ℕ)
unfolding print_block table_fields line_fields partition_fields table_columns view_table_terms partition_views
print_lines d =
    table_columns ∷ print_block table_fields 1 d.widths
    ++ (view_table_terms ∷ print_block line_fields 1 d.views
    ++ partition_views ∷ print_block partition_fields 1 d.partitions)

unfoldable pub print : Declared → List ℕ
unfolding end_each print_lines
print d = end_each (print_lines d)
