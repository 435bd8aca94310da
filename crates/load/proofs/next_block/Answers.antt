-- `next_block`: the block behind each.
use mathlib.Core.Path.{sym, ◌∙◌}
use mathlib.Core.Logic.{⊎_elim}
use Rattle.policy_text.specs.Text.{next_block}
use Rattle.load.proofs.Blocks.{is_tables, is_views, is_partitions}
use Rattle.load.proofs.next_block.Goals as goal

pub returns-in-Tables : goal.returns-in-Tables
unfolding next_block
returns-in-Tables c = λ b e. rw (is_tables b (sym c.in-Tables.is ∙ e))

pub returns-in-Views : goal.returns-in-Views
unfolding next_block
returns-in-Views c = λ b e.
    ⊎_elim (λ v. rw (is_views b (sym v ∙ e))) (λ p. rw (is_partitions b (sym p ∙ e))) c.in-Views.is
