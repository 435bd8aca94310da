-- `with_atom`: the atom's line goes behind the others, and the sooner of two faults is kept.
use Rattle.rule_body.proofs.AtomsMore.{within_behind}
use Rattle.rule_body.proofs.body.with_atom.Goals as goal

pub returns : goal.returns
returns c = within_behind _ _ _ _ _ c.atom_fault.ensures c.with_line.ensures c.sooner.ensures
