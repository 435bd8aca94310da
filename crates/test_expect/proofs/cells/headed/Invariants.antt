-- `headed`: no more numbers than cells.
use Rattle.std.proofs.Common.{◌≤◌}
use Rattle.test_expect.proofs.cells.headed.Given as goal

abbrev pub invariant-loop-spelt : goal.invariant-loop-spelt
invariant-loop-spelt l = l.count ≤ 10
