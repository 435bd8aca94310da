-- `read_body`: the atoms held are those of the pieces passed; each other piece stands behind `lead`.
use Rattle.rule_body.proofs.BodyWalk.{Walked}
use Rattle.rule_body.proofs.body.read_body.Given as goal

abbrev pub invariant-loop-piece : goal.invariant-loop-piece
invariant-loop-piece l = Walked l.tables l.fn.s l.b l.lead l.piece-iterator
