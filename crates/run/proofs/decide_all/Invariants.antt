-- `decide_all`. The loop's invariant: the queries so far have their lines, and those to come are the lines of the rest.
use mathlib.Core.Path.{◌≡◌}
use Prim.Native.Nat.{◌-◌}
use lib.ListN.{length}
use Rattle.model.specs.Rows.{query_rows_long}
use Rattle.run.proofs.Progress.{Progress}
use Rattle.run.proofs.decide_all.Given as goal

abbrev pub invariant-loop-at : goal.invariant-loop-at
invariant-loop-at l =
    (length l.lines ≡ query_rows_long) × Progress l.tables l.ready l.queries l.initial.out l.start l.initial.s l.out l.s l.query l.at l.to

abbrev pub decreases-loop-at : goal.decreases-loop-at
decreases-loop-at l = length l.queries - l.at
