-- `put_query`: the lines before this one are printed behind the names line.
use mathlib.Core.Path.{◌≡◌}
use lib.ListN.{length}
use Rattle.import.specs.Translating.{text_room}
use Rattle.import.proofs.Lines.{Printed}
use Rattle.import.proofs.translating.put_query.Given as goal

abbrev pub invariant-loop-line : goal.invariant-loop-line
invariant-loop-line l = Printed l.fn.q l.keys l.shown l.line-index l.out l.at × (length l.out ≡ text_room)
