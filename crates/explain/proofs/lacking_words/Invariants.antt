-- `lacking_words`: the least views of the labels that have come and hold no granted view.
use Rattle.explain.proofs.Gathered.{Gathered, lacking_of}
use Rattle.explain.proofs.lacking_words.Given as goal

abbrev pub invariant-loop-w : goal.invariant-loop-w
invariant-loop-w l = Gathered (lacking_of l.granted) l.fn.l l.w-iterator.iter.rest.now l.r
