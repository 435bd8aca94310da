-- `views_of`: the views of the bits before `k` are gathered.
use Rattle.page.proofs.Listed.{FirstViews}
use Rattle.page.proofs.views.views_of.Given as goal

abbrev pub invariant-loop-k : goal.invariant-loop-k
invariant-loop-k l = FirstViews l.word l.numbers l.count l.k
