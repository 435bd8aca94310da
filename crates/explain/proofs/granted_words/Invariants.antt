-- `granted_words`: the granted views of the labels that have come.
use Rattle.explain.proofs.Gathered.{Gathered, granted_of}
use Rattle.explain.proofs.granted_words.Given as goal

abbrev pub invariant-loop-w : goal.invariant-loop-w
invariant-loop-w l = Gathered (granted_of l.granted) l.fn.l l.w-iterator.iter.rest.now l.r
