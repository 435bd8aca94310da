-- `with_outside`: it is turned back by 2, where nothing turns one back sooner.
use Rattle.rule_body.proofs.AtomsMore.{outside_behind}
use Rattle.rule_body.proofs.body.with_outside.Goals as goal

pub returns : goal.returns
returns c = outside_behind _ c.sooner.ensures
