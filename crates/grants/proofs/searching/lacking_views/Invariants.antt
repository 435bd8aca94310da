-- `lacking_views`: the words are those of the labels before place `w-index`.
use Rattle.grants.proofs.Gathering.{LackingTo}
use Rattle.grants.proofs.searching.lacking_views.Given as goal

abbrev pub invariant-loop-w : goal.invariant-loop-w
invariant-loop-w l = LackingTo l.granted l.w-items l.w-index l.r
