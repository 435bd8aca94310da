-- `holding`: the word is that of the words before `i`.
use Rattle.grants.proofs.Gathering.{HoldingTo}
use Rattle.grants.proofs.searching.holding.Given as goal

abbrev pub invariant-loop-i : goal.invariant-loop-i
invariant-loop-i l = HoldingTo l.v l.w-items l.i l.word
