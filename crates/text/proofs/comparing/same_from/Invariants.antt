-- The loop's invariant: what stands from place i on decides.
use mathlib.Core.Path.{◌≡◌}
use lib.ListN.{drop}
use Rattle.text.specs.Lines.{same_bytes}
use Rattle.text.proofs.comparing.same_from.Given as goal

abbrev pub invariant-loop-i : goal.invariant-loop-i
invariant-loop-i l = same_bytes (drop l.i l.a) (drop l.i l.b) ≡ same_bytes (drop l.from l.a) (drop l.from l.b)
