-- `no_partition`: the views are no more than the partition.
use mathlib.Core.Path.{ap}
use Rattle.policy_lines.specs.Value.{no_partition}
use Rattle.policy_lines.specs.declared.ViewList.{ViewList}
use Rattle.policy_lines.proofs.no_partition.Goals as goal

pub returns : goal.returns
unfolding no_partition
returns c =
    ap (λ (l : ViewList). record { ok = c.args.ok; outside = c.args.ok; number = 0; listed = l }) c.no_views.ensures
