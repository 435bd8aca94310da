-- The loop's invariant: the lines read so far, with reading the rest the same as reading the text from its first line.
use Prim.Native.Nat.{◌-◌}
use lib.ListN.{length}
use Rattle.query_text.proofs.Walk.{Walked}
use Rattle.query_text.proofs.read_lines.Given as goal

abbrev pub invariant-loop-at : goal.invariant-loop-at
invariant-loop-at l = Walked l.tables l.text l.start l.q l.shown l.hidden l.line l.at

abbrev pub decreases-loop-at : goal.decreases-loop-at
decreases-loop-at l = length l.text - l.at
