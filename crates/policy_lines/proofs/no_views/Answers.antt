-- `no_views`: the value is the definition's.
use mathlib.Core.Path.{refl}
use Rattle.policy_lines.specs.Value.{no_views}
use Rattle.policy_lines.proofs.no_views.Goals as goal

pub returns : goal.returns
unfolding no_views
returns c = refl
