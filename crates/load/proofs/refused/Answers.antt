-- `refused`: what turns a text back, as the definition says it.
use mathlib.Core.Path.{refl}
use Rattle.load.specs.Value.{loading_value}
use Rattle.load.proofs.refused.Goals as goal

pub returns : goal.returns
unfolding loading_value
returns c = refl
