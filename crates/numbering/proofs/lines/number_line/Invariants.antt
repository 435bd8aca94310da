-- `number_line`: the terms before this one have the numbers of their variables.
use mathlib.Core.Path.{◌≡◌}
use Rattle.numbering.specs.Lines.{numbered_term}
use Rattle.numbering.proofs.Numbered.{changed}
use Rattle.numbering.proofs.lines.number_line.Given as goal

abbrev pub invariant-loop-t : goal.invariant-loop-t
invariant-loop-t l = l.t-items ≡ changed (numbered_term l.keys l.shown) l.t-index l.fn.l.terms
