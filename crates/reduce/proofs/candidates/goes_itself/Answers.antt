-- `goes_itself`: no variable stands in two columns, or `keeps_own` tells.
use mathlib.Core.Path.{sym, ◌∙◌}
use Rattle.words.proofs.Answers.{yes_iff}
use Rattle.reduce.proofs.OwnTerms.{own_nothing}
use Rattle.reduce.proofs.candidates.goes_itself.Goals as goal

pub returns-then-twice-eq0 : goal.returns-then-twice-eq0
returns-then-twice-eq0 c = yes_iff (own_nothing _ _ _ _ (sym c.twice_of-twice.ensures ∙ c.if-twice-eq0.true))

pub returns : goal.returns
returns c = rw (← c.twice_of-twice.ensures) c.keeps_own.ensures
