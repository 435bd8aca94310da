-- `enter_term`: entering a used term, or the test of an unused one, which enters nothing.
use Rattle.validity.proofs.Entries.{entering_used, entering_unused}
use Rattle.validity.proofs.enter_term.Goals as goal

pub returns-then-used : goal.returns-then-used
returns-then-used c = entering_used c.args.used c.if-used.true c.enter_used.ensures

pub returns : goal.returns
returns c = entering_unused c.args.used c.if-used.false c.unused_term.ensures
