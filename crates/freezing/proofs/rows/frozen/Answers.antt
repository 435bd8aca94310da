-- `frozen`: a mark past that of a constant is a variable's.
use native.Mathlib.Omega.{arith}
use borrow.Author.Tests.{lt-ltb, le-ltb}
use Rattle.freezing.specs.Rows.{frozen_term}
use Rattle.freezing.proofs.rows.frozen.Goals as goal

pub overflow_add-result : goal.overflow_add-result
overflow_add-result c = omega (arith, c.requires.1 (omega arith))

pub returns-then-t-gt-CONSTANT : goal.returns-then-t-gt-CONSTANT
unfolding frozen_term
returns-then-t-gt-CONSTANT c = rw (lt-ltb 1 c.args.t.mark (omega arith))

pub returns : goal.returns
unfolding frozen_term
returns c = rw (le-ltb 1 c.args.t.mark (omega arith))
