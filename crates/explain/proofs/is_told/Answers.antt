-- `is_told`: the two tests, one after the other.
use mathlib.Core.Path.{ap}
use mathlib.Core.Bool.{not}
use Rattle.explain.proofs.is_told.Goals as goal

pub returns-then-not-meets : goal.returns-then-not-meets
returns-then-not-meets c = λ ws e. rw (← c.meets.ensures, (ap not c.if-not-meets.true), ← c.has_smaller.ensures ws e)

pub returns-else-not-meets : goal.returns-else-not-meets
returns-else-not-meets c = λ ws e. rw (← c.meets.ensures, (ap not c.if-not-meets.false))
