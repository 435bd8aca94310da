-- `write_words`. The invariant: the first i words stand at the head of the buffer, before what it held from place i on.
-- A word of 32 bits is itself in its cell.
use Rattle.label_lists.proofs.Copied.{CopiedTo}
use Rattle.explanations.proofs.write_words.Given as goal

abbrev pub invariant-loop-i : goal.invariant-loop-i
invariant-loop-i l = CopiedTo l.fn.words l.i l.initial.out l.out
