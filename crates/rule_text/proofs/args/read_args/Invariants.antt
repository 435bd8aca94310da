-- `read_args`: the terms held are those of the pieces passed; each other piece stands behind `lead`.
use Rattle.rule_text.proofs.ArgsRead.{ArgsRead}
use Rattle.rule_text.proofs.args.read_args.Given as goal

abbrev pub invariant-loop-piece : goal.invariant-loop-piece
invariant-loop-piece l = ArgsRead l.s l.a l.outside l.lead l.piece-iterator
