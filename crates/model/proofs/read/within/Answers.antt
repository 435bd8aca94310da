-- `within`: the code is the definition.
use mathlib.Core.Path.{refl}
use Rattle.model.specs.Marks.{number_within}
use Rattle.model.proofs.read.within.Goals as goal

pub returns : goal.returns
unfolding number_within
returns c = refl
