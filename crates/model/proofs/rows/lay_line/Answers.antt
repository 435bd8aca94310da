use mathlib.Core.Path.{refl}
use Rattle.model.specs.Rows.{term_at}
use Rattle.model.specs.Value.{unused_term}
use Rattle.model.proofs.LaidTerms.{term_laid, line_laid}
use native.Mathlib.Omega.{arith}
use Rattle.model.proofs.rows.lay_line.Goals as goal

pub loop-p-preserved : goal.loop-p-preserved
unfolding term_at unused_term
loop-p-preserved c = term_laid _ c.loop-p.invariant c.requires (omega arith) refl

pub returns : goal.returns
returns c = line_laid c.loop-p.invariant (omega arith) c.requires
