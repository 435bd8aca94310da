-- `show_term`: by the test, the shown term or the term.
use Rattle.entering.specs.Showing.{show_value}
use Rattle.entering.proofs.showing.show_term.Goals as goal

pub returns-then-is_shared : goal.returns-then-is_shared
unfolding show_value
returns-then-is_shared c = simp (← c.is_shared.ensures, c.if-is_shared.true)

pub returns : goal.returns
unfolding show_value
returns c = simp (← c.is_shared.ensures, c.if-is_shared.false)
