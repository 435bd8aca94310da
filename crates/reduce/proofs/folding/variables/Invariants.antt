-- `variables`: the word has the hidden variables of the lines that were looked at.
use Rattle.reduce.proofs.GoingAlone.{VariablesSome}
use Rattle.reduce.proofs.folding.variables.Given as goal

abbrev pub invariant-loop-rest : goal.invariant-loop-rest
invariant-loop-rest l = VariablesSome l.words l.rows l.rest l.m

abbrev pub decreases-loop-rest : goal.decreases-loop-rest
decreases-loop-rest l = l.rest
