-- `is_next`: the block says which names line is the next, and no block is behind the partitions.
use mathlib.Core.Path.{sym, ◌∙◌}
use Rattle.policy_text.specs.Text.{is_next}
use Rattle.text.specs.Names.{view_table_terms, partition_views}
use Rattle.load.proofs.Blocks.{is_tables, is_views, is_partitions}
use Rattle.load.proofs.is_next.Goals as goal

pub returns-in-Tables : goal.returns-in-Tables
unfolding is_next view_table_terms
returns-in-Tables c = λ b e. rw (is_tables b (sym c.in-Tables.is ∙ e), c.if-not-started.false) c.same.ensures

pub returns-in-Views : goal.returns-in-Views
unfolding is_next partition_views
returns-in-Views c = λ b e. rw (is_views b (sym c.in-Views.is ∙ e), c.if-not-started.false) c.same-in-Views.ensures

pub returns-in-Partitions : goal.returns-in-Partitions
unfolding is_next
returns-in-Partitions c = λ b e. rw (is_partitions b (sym c.in-Partitions.is ∙ e), c.if-not-started.false)
