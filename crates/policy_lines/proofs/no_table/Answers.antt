-- `no_table`: the value is the definition's.
use mathlib.Core.Path.{refl}
use Rattle.policy_lines.specs.Value.{no_table}
use Rattle.policy_lines.proofs.no_table.Goals as goal

pub returns : goal.returns
unfolding no_table
returns c = refl
