-- The loop's invariant: what stands behind the words compared decides.
use Rattle.std.proofs.Common.{◌≡◌, ◌*◌, drop}
use Rattle.text.specs.Lines.{same_bytes}
use Rattle.text.proofs.comparing.same.Given as goal

abbrev pub invariant-loop-k : goal.invariant-loop-k
invariant-loop-k l = same_bytes (drop (l.k * 8) l.a) (drop (l.k * 8) l.b) ≡ same_bytes l.a l.b
