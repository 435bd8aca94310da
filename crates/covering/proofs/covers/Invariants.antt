-- `covers`: the rules hold with every column at the bound columns that were taken, and at `p` with the columns before `q`.
use mathlib.Core.Path.{◌≡◌}
use mathlib.Core.Bool.{true}
use Rattle.covering.proofs.Columns.{Wide, Passed, PassedRow}
use Rattle.covering.proofs.covers.Given as goal

abbrev pub invariant-loop-q : goal.invariant-loop-q
invariant-loop-q l =
    (l.ok ≡ true) × PassedRow (Wide l.width l.views l.v) (Wide l.width l.lines l.a) l.p l.q

abbrev pub invariant-columns : goal.invariant-columns
invariant-columns l =
    (l.ok ≡ true) × Passed l.width l.bound (Wide l.width l.views l.v) (Wide l.width l.lines l.a) l.rest

abbrev pub decreases-columns : goal.decreases-columns
decreases-columns l = l.rest
