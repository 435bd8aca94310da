-- `refused`: what turns a text back, as the definition says it.
use mathlib.Core.Path.{refl}
use Rattle.query_text.specs.Value.{reading_value}
use Rattle.query_text.proofs.refused.Goals as goal

pub returns : goal.returns
unfolding reading_value
returns c = refl
