-- What reading a policy's line gives: what the line says where its numbers are within their limits, else no more than that it
-- is malformed (ok is false), or that a number is past its limit (outside is true).
use Rattle.std.specs.Prelude.{Bool, true, false, cond, ◌&&◌, List, [], ◌∷◌, ℕ}
use Rattle.std.proofs.Math.Option.{Option, none, some}
use Rattle.theory.specs.Query.{Line}
use Rattle.theory.specs.Executable.Test.{all}
use Rattle.model.specs.Fields.{Numbered}
use Rattle.model.specs.Limits.{most_tables, most_columns, most_views, most_partitions, up_to, line_within}
use Rattle.model.specs.Parsed.{blank_value, good_value}
use Rattle.policy_text.specs.WellFormed.{ascend}
use Rattle.policy_text.specs.Policy.{views_word}
use Rattle.policy_lines.specs.declared.TableLine.{TableLine}
use Rattle.policy_lines.specs.declared.ViewLine.{ViewLine}
use Rattle.policy_lines.specs.declared.ViewList.{ViewList}
use Rattle.policy_lines.specs.declared.PartitionLine.{PartitionLine}

-- ---- a table

unfoldable pub no_table : Bool → TableLine
no_table ok = record { ok = ok; outside = ok; number = 0; columns = 0 }

unfoldable pub table_value : Option (Numbered ℕ) → TableLine
unfolding no_table up_to
table_value none = no_table false
table_value (some e) =
    cond (up_to most_tables e.number && up_to most_columns e.value)
    (record { ok = true; outside = false; number = e.number; columns = e.value }) (no_table true)

-- ---- a view

unfoldable pub no_view : Bool → ViewLine
unfolding blank_value
no_view ok = record { ok = ok; outside = ok; number = 0; view = blank_value ok ok }

unfoldable pub view_value : Option (Numbered Line) → ViewLine
unfolding no_view up_to line_within good_value
view_value none = no_view false
view_value (some e) =
    cond (up_to most_views e.number && line_within e.value)
    (record { ok = true; outside = false; number = e.number; view = good_value e.value.table e.value.columns })
    (no_view true)

-- ---- a partition

unfoldable pub no_views : Bool → ViewList
no_views ok = record { ok = ok; outside = ok; ascending = false; views = 0; last = 0 }

-- the last of the views, n where there is none
unfoldable pub last_after : ℕ → List ℕ → ℕ
last_after n [] = n
last_after n (v ∷ vs) = last_after v vs

-- whether the views ascend, as bits, and the last of them
unfoldable pub view_list : List ℕ → ViewList
unfolding ascend views_word last_after
view_list vs = record { ok = true; outside = false; ascending = ascend vs; views = views_word vs; last = last_after 0 vs }

unfoldable pub view_list_value : Option (List ℕ) → ViewList
unfolding no_views all up_to view_list
view_list_value none = no_views false
view_list_value (some vs) = cond (all (up_to most_views) vs) (view_list vs) (no_views true)

unfoldable pub no_partition : Bool → PartitionLine
unfolding no_views
no_partition ok = record { ok = ok; outside = ok; number = 0; listed = no_views ok }

unfoldable pub partition_value : Option (Numbered (List ℕ)) → PartitionLine
unfolding no_partition up_to all view_list
partition_value none = no_partition false
partition_value (some e) =
    cond (up_to most_partitions e.number && all (up_to most_views) e.value)
    (record { ok = true; outside = false; number = e.number; listed = view_list e.value }) (no_partition true)
