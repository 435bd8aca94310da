-- `queries_at`: 65,536 bytes are handed over.
use native.Mathlib.Omega.{arith}
use lib.ListN.{length-take}
use borrow.Author.Rules.{rules}
use Rattle.test_examples.proofs.limits.queries_at.Goals as goal

pub slice_bounds-run-end-2 : goal.slice_bounds-run-end-2
slice_bounds-run-end-2 c = simp length-take (omega arith)

pub run-n-requires : goal.run-n-requires
run-n-requires c = (simp length-take (omega arith), search rules)
