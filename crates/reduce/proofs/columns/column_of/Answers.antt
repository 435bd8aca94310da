use mathlib.Core.Path.{◌≡◌}
use native.Mathlib.Omega.{arith}
use Rattle.model.specs.Limits.{most_columns}
use Rattle.reduce.proofs.FirstColumns.{none_more, first_found, found_none}
use Rattle.reduce.proofs.columns.column_of.Goals as goal

pub returns-then-same_term : goal.returns-then-same_term
returns-then-same_term c =
    first_found _ c.loop-q-test.true c.loop-q.invariant c.term_at.ensures c.same_term.ensures c.if-same_term.true

pub loop-q-preserved : goal.loop-q-preserved
loop-q-preserved c = none_more _ c.loop-q.invariant c.term_at.ensures c.same_term.ensures c.if-same_term.false

pub returns : goal.returns
returns c = let e : c.loop-q.q ≡ most_columns = omega arith in found_none (rw e at c.loop-q.invariant)
