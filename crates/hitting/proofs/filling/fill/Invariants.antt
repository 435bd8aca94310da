-- `fill`: the sets below `m` are filled.
use Prim.Native.Nat.{◌+◌, ◌≤◌}
use Rattle.hitting.specs.Table.{Filled}
use Rattle.hitting.proofs.filling.fill.Given as goal

abbrev pub invariant-loop-m : goal.invariant-loop-m
invariant-loop-m l = (l.m ≤ l.full + 1) × Filled l.hits l.costs l.table l.m
