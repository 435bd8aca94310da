-- `blank`: the value is the definition's.
use mathlib.Core.Path.{refl}
use Rattle.model.specs.Parsed.{blank_value}
use Rattle.model.proofs.read.blank.Goals as goal

pub returns : goal.returns
unfolding blank_value
returns c = refl
