-- `keep`: the answers keep their length.
use mathlib.Core.Path.{◌≡◌}
use lib.ListN.{length}
use Rattle.valuations.proofs.answers.keep.Given as goal

abbrev pub invariant-loop-x : goal.invariant-loop-x
invariant-loop-x l = length l.answers ≡ length l.initial.answers
