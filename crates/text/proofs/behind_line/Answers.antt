-- The line ends at the first byte 10.
use mathlib.Core.Path.{refl}
use native.Mathlib.Omega.{arith}
use Rattle.text.specs.Lines.{newline}
use Rattle.text.proofs.Lines.{before_le}
use Rattle.text.proofs.behind_line.Goals as goal

pub overflow_add-result : goal.overflow_add-result
overflow_add-result c = omega (arith, c.first-n.ensures, before_le newline c.args.rest.now)

pub returns : goal.returns
returns c = record { place = omega (arith, c.first-n.ensures); number = refl }
