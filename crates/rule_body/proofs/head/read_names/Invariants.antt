-- `read_names`: the names held are those of the pieces passed; each other piece stands behind `lead`.
use Rattle.rule_body.proofs.NamesRead.{NamesPassed}
use Rattle.rule_body.proofs.head.read_names.Given as goal

abbrev pub invariant-loop-piece : goal.invariant-loop-piece
invariant-loop-piece l = NamesPassed l.fn.s l.keys l.h l.lead l.piece-iterator
