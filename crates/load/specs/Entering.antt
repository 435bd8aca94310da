-- What the code gives for a line, whatever its values stand for: what turns the line back, and the policy with what it declares.
use Rattle.std.specs.Prelude.{◌≡◌, Bool, cond, List, ℕ, ◌<◌, length, get_or}
use Rattle.std.proofs.Math.Option.{Option}
use Rattle.words.specs.Bits.{is_set}
use Rattle.words.specs.Sets.{set_bit}
use Rattle.theory.specs.Query.{Line}
use Rattle.model.specs.Limits.{most_views}
use Rattle.model.specs.Fields.{Numbered}
use Rattle.model.specs.Value.{tables_value}
use Rattle.model.specs.Parsed.{good_value}
use Rattle.model.specs.declared.Parsed.{Parsed}
use Rattle.model.specs.declared.Policy.{Policy}
use Rattle.model.specs.declared.Tables.{Tables}
use Rattle.policy_text.specs.Text.{Block, enter, table_fault, view_fault, partition_fault}
use Rattle.policy_text.specs.Declared.{Declared}
use Rattle.policy_text.specs.Policy.{policy_value}
use Rattle.policy_lines.specs.Value.{table_value, view_value, partition_value, view_list}
use Rattle.policy_lines.specs.declared.TableLine.{TableLine}
use Rattle.policy_lines.specs.declared.ViewLine.{ViewLine}
use Rattle.policy_lines.specs.declared.PartitionLine.{PartitionLine}
use Rattle.load.specs.Steps.{line_fault, more_tables, more_views, more_partitions, entered_value, progress_value, stepped_value}
use Rattle.load.specs.declared.Progress.{Progress}
use Rattle.load.specs.declared.Stepped.{Stepped}
use Rattle.load.specs.declared.enter.Entered.{Entered}

-- ---- what turns a line back

abbrev pub FaultOfTable : Tables → TableLine → ℕ → Type 0
FaultOfTable tables t r =
    (d : Declared) (o : Option (Numbered ℕ)) → tables ≡ tables_value d.widths → t ≡ table_value o → r ≡ line_fault o (table_fault d)

abbrev pub FaultOfView : Tables → ℕ → ViewLine → ℕ → Type 0
FaultOfView tables views t r =
    (d : Declared) (o : Option (Numbered Line)) → tables ≡ tables_value d.widths → views ≡ length d.views → t ≡ view_value o
    → r ≡ line_fault o (view_fault d)

abbrev pub FaultOfPartition : ℕ → ℕ → PartitionLine → ℕ → Type 0
FaultOfPartition views partitions t r =
    (d : Declared) (o : Option (Numbered (List ℕ))) → views ≡ length d.views → partitions ≡ length d.partitions
    → t ≡ partition_value o → r ≡ line_fault o (partition_fault d)

-- ---- the policy with one table, view or partition more

abbrev pub WithTable : Policy → ℕ → Policy → Type 0
WithTable p columns r = (d : Declared) → p ≡ policy_value d → r ≡ policy_value (more_tables d columns)

abbrev pub WithView : Policy → Parsed → Policy → Type 0
WithView p v r =
    (d : Declared) (A : Line) → p ≡ policy_value d → v ≡ good_value A.table A.columns → r ≡ policy_value (more_views d A)

abbrev pub WithPartition : Policy → ℕ → Policy → Type 0
WithPartition p views r =
    (d : Declared) (vs : List ℕ) → p ≡ policy_value d → views ≡ (view_list vs).views → r ≡ policy_value (more_partitions d vs)

-- the words of the views with partition i in those that it grants, the views of a word
abbrev pub Granting : List ℕ → ℕ → ℕ → List ℕ → Type 0
Granting grants word i r =
    (k : ℕ) → k < most_views → get_or r k 0 ≡ cond (is_set word k) (set_bit (get_or grants k 0) i) (get_or grants k 0)

-- ---- a line of values, and any line

abbrev pub Entering : Block → Policy → List ℕ → Entered → Type 0
Entering b p l r = (d : Declared) → p ≡ policy_value d → r ≡ entered_value d (enter b d l)

abbrev pub Stepping : Progress → List ℕ → Stepped → Type 0
Stepping g l r =
    (b : Block) (started : Bool) (d : Declared) → g ≡ progress_value b started d → r ≡ stepped_value b started d l
