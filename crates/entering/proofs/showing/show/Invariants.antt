-- `show`: the terms of the rows before `i` are shown, and of row `i` those before column `p`; where nothing is shared all stay as they are.
use Rattle.entering.proofs.ShownTerms.{ShownTo}
use Rattle.entering.proofs.showing.show.Given as goal

abbrev pub invariant-loop-i : goal.invariant-loop-i
invariant-loop-i l = ShownTo l.i 0 l.fn.lines l.shared l.lines

abbrev pub invariant-loop-p : goal.invariant-loop-p
invariant-loop-p l = ShownTo l.i l.p l.fn.lines l.shared l.lines
