-- `none_listed`: the value is that of no view.
use mathlib.Core.Path.{refl}
use Rattle.policy_lines.specs.Value.{view_list}
use Rattle.policy_lines.proofs.none_listed.Goals as goal

pub returns : goal.returns
unfolding view_list
returns c = refl
