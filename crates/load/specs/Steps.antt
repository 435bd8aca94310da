-- The steps of loading, as the code's values: a line entered, and where the text stands behind it.
use Rattle.std.specs.Prelude.{◌≡◌, Result, Bool, true, false, cond, ◌&&◌, List, [], ◌∷◌, ◌++◌, ℕ, ◌≤◌}
use Rattle.std.proofs.Math.Option.{Option, none, some}
use Rattle.text.specs.Lines.{lines}
use Rattle.theory.specs.Query.{Line}
use Rattle.model.specs.Limits.{most_tables}
use Rattle.model.specs.Fields.{Numbered}
use Rattle.model.specs.declared.Parsed.{Parsed}
use Rattle.policy_text.specs.Text.{nothing, faulty, entered, tables, views, partitions, enter, is_next, next_block, load_from}
use Rattle.policy_text.specs.Declared.{Declared}
use Rattle.policy_text.specs.Text.{Block as TheBlock, Entered as TheEntered}
use Rattle.policy_text.specs.Policy.{policy_value}
use Rattle.load.specs.Value.{loading_value}
use Rattle.model.specs.declared.Policy.{Policy}
use Rattle.model.specs.declared.Refusal.{Refusal}
use Rattle.load.specs.declared.Block.{Block}
use Rattle.load.specs.declared.Block.TheVariants.{Tables, Views, Partitions}
use Rattle.load.specs.declared.Progress.{Progress}
use Rattle.load.specs.declared.Stepped.{Stepped}
use Rattle.load.specs.declared.enter.Entered.{Entered}

-- the loading of a text that is the blocks without their first names line, the first line with the number k
abbrev pub BlocksLoaded : List ℕ → ℕ → Result Policy Refusal → Type 0
BlocksLoaded text k r = r ≡ loading_value (load_from tables false nothing k (lines text).ended (lines text).rest)

-- a line that is turned back declares nothing more
unfoldable pub entered_value : Declared → TheEntered → Entered
unfolding policy_value
entered_value d (faulty n) = record { fault = n; policy = policy_value d }
entered_value d (entered e) = record { fault = 0; policy = policy_value e }

-- what turns a line back: its form (1), or the first of its checks
unfoldable pub line_fault : {X : Type 0} → Option (Numbered X) → (Numbered X → ℕ) → ℕ
line_fault none fault = 1
line_fault (some e) fault = fault e

-- what is declared, with one table, view or partition more
unfoldable pub more_tables : Declared → ℕ → Declared
more_tables d w = record { widths = d.widths ++ w ∷ []; views = d.views; partitions = d.partitions }

unfoldable pub more_views : Declared → Line → Declared
more_views d A = record { widths = d.widths; views = d.views ++ A ∷ []; partitions = d.partitions }

unfoldable pub more_partitions : Declared → List ℕ → Declared
more_partitions d vs = record { widths = d.widths; views = d.views; partitions = d.partitions ++ vs ∷ [] }

-- a line within its limits has a number from 1 to the most, and a view's a table from 1 to the most
abbrev pub Numbering : ℕ → Bool → Bool → ℕ → Type 0
Numbering most ok outside n = ok ≡ true → outside ≡ false → (1 ≤ n) × (n ≤ most)

abbrev pub ViewTabled : Bool → Bool → Parsed → Type 0
ViewTabled ok outside v = ok ≡ true → outside ≡ false → (1 ≤ v.table) × (v.table ≤ most_tables)

-- a block, as the code's value
abbrev pub block_value : TheBlock → Block
block_value tables = Tables
block_value views = Views
block_value partitions = Partitions

unfoldable pub progress_value : TheBlock → Bool → Declared → Progress
unfolding policy_value
progress_value b started d = record { block = block_value b; started = started; policy = policy_value d }

-- a line in a block: the next block's names line, once this one has a line of values, or a line of values
unfoldable pub after_entry : TheBlock → Declared → TheEntered → Stepped
unfolding progress_value
after_entry b d (faulty n) = record { fault = n; progress = progress_value b true d }
after_entry b d (entered e) = record { fault = 0; progress = progress_value b true e }

unfoldable pub stepped_value : TheBlock → Bool → Declared → List ℕ → Stepped
unfolding progress_value next_block is_next enter after_entry
stepped_value b started d l =
    cond (started && is_next b l) (record { fault = 0; progress = progress_value (next_block b) false d }) (after_entry b d (enter b d l))
