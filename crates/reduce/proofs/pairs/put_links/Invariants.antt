-- `put_links`: the targets that were looked at have their links.
use Rattle.reduce.proofs.Links.{LinksSome}
use Rattle.reduce.proofs.pairs.put_links.Given as goal

abbrev pub invariant-loop-rest : goal.invariant-loop-rest
invariant-loop-rest l = LinksSome l.w l.row l.a l.b l.initial.table l.rest l.table

abbrev pub decreases-loop-rest : goal.decreases-loop-rest
decreases-loop-rest l = l.rest
