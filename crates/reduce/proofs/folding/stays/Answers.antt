use mathlib.Core.Bool.{not}
use mathlib.Core.Path.{ap}
use mathlib.Core.Path.{◌≡◌}
use mathlib.Core.Bool.{false≢true}
use native.Mathlib.Omega.{arith}
use Rattle.model.specs.Limits.{most_columns}
use Rattle.reduce.proofs.GoingAlone.{kept_skip, kept_same_term}
use Rattle.reduce.proofs.folding.stays.Goals as goal
use Rattle.reduce.proofs.folding.stays.Goals.{else-is_shared, then-is_shared+else-not-same_term}

pub returns-then-not-same_term : goal.returns-then-not-same_term
returns-then-not-same_term c = λ e. absurd (false≢true e)

pub loop-p-preserved : goal.loop-p-preserved
loop-p-preserved c =
    let kept = c.loop-p.invariant in
    let read = c.term_at-t.ensures in
    elim c.if-is_shared.branch [ then-is_shared+else-not-same_term w ↦ kept_same_term kept read w.same_term.result w.term_at-u.ensures w.same_term.ensures (ap not w.if-not-same_term.false) | else-is_shared w ↦ kept_skip kept read c.is_shared.result c.is_shared.ensures w.if-is_shared.false ]

pub returns : goal.returns
returns c = λ _. let e : c.loop-p.p ≡ most_columns = omega arith in (rw e at c.loop-p.invariant).kept
