-- `matches`: the columns before `p` allow their cells.
use Prim.Native.Nat.{ℕ, ◌<◌}
use Rattle.freezing.proofs.MatchedColumns.{Allowed}
use Rattle.freezing.proofs.rows.matches.Given as goal

abbrev pub invariant-loop-p : goal.invariant-loop-p
invariant-loop-p l = (q : ℕ) → q < l.p → Allowed l.views l.k l.cells q
