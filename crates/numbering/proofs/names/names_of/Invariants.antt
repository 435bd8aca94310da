-- `names_of`: the keys of the lines before this one are entered.
use Rattle.numbering.proofs.Named.{Gathered}
use Rattle.numbering.proofs.names.names_of.Given as goal

abbrev pub invariant-loop-line : goal.invariant-loop-line
invariant-loop-line l = Gathered l.line-items l.line-index l.names
