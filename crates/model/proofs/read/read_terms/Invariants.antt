-- `read_terms`: the terms held are those of the fields passed.
use Rattle.model.proofs.TermsRead.{TermsRead}
use Rattle.model.proofs.read.read_terms.Given as goal

abbrev pub invariant-loop-field : goal.invariant-loop-field
invariant-loop-field l = TermsRead l.s l.p l.outside l.field-iterator
