use mathlib.Core.Path.{◌≡◌}
use native.Mathlib.Omega.{arith}
use Rattle.words.proofs.Answers.{yes_iff, no_iff}
use Rattle.model.specs.Limits.{most_columns}
use Rattle.reduce.proofs.OwnTerms.{own_skipped, own_passed, own_failed, own_all}
use mathlib.Core.Path.{ap}
use mathlib.Core.Bool.{not}
use Rattle.reduce.proofs.candidates.keeps_own.Goals as goal
use Rattle.reduce.proofs.candidates.keeps_own.Goals.{else-is_shared, then-is_shared+else-not-same_term}

pub term_at-requires-then-is_shared : goal.term_at-requires-then-is_shared
term_at-requires-then-is_shared c = (omega arith, omega (arith, c.column_of-q.ensures.below))

pub returns-then-not-same_term : goal.returns-then-not-same_term
returns-then-not-same_term c =
    no_iff
    (own_failed _ _ _ _ c.loop-p.p c.is_shared.result c.term_at-x.ensures c.is_shared.ensures
    c.same_term.result c.column_of-q.ensures c.term_at.ensures c.term_at-then-is_shared.ensures
    c.same_term.ensures c.loop-p-test.true c.if-is_shared.true (ap not c.if-not-same_term.true))

pub loop-p-preserved : goal.loop-p-preserved
loop-p-preserved c =
    let at = c.loop-p in
    let read = c.term_at-x.ensures in
    let test = c.is_shared in
    elim c.if-is_shared.branch [
      | then-is_shared+else-not-same_term w ↦ own_passed _ _ _ _ at.p test.result read test.ensures w.same_term.result w.column_of-q.ensures w.term_at.ensures
          w.term_at-then-is_shared.ensures w.same_term.ensures (ap not w.if-not-same_term.false) at.invariant
      | else-is_shared w ↦ own_skipped _ _ _ _ at.p test.result read test.ensures w.if-is_shared.false at.invariant
    ]

pub returns : goal.returns
returns c = let e : c.loop-p.p ≡ most_columns = omega arith in yes_iff (own_all _ _ _ _ (rw e at c.loop-p.invariant))
