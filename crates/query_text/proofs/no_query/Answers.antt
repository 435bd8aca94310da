-- `no_query`: the value of no lines.
use mathlib.Core.Path.{refl}
use Rattle.model.specs.Value.{query_value}
use Rattle.query_text.proofs.no_query.Goals as goal

pub returns : goal.returns
unfolding query_value
returns c = refl
