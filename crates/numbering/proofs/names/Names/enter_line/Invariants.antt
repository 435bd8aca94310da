-- `enter_line`: the keys of the terms before this one are entered.
use Rattle.numbering.proofs.Named.{Named}
use Rattle.numbering.proofs.names.Names.enter_line.Given as goal

abbrev pub invariant-loop-t : goal.invariant-loop-t
invariant-loop-t l = Named l.t-items l.initial.self l.t-index l.self
