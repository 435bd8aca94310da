-- `no_atoms`: the value is the definition's.
use Rattle.rule_body.specs.Body.{no_atoms}
use Rattle.rule_body.proofs.body.no_atoms.Goals as goal

pub returns : goal.returns
unfolding no_atoms
returns c = rw c.no_query.ensures
