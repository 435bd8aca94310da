-- `term_at`: the term of the two numbers read.
use mathlib.Core.Path.{refl}
use Rattle.model.specs.Rows.{laid_term}
use Rattle.model.proofs.rows.term_at.Goals as goal

pub returns : goal.returns
unfolding laid_term
returns c = refl
