use mathlib.Core.Path.{ap, ◌∙◌}
use Rattle.entering.specs.Showing.{show_value}
use Rattle.entering.proofs.ShownTerms.{one_done, none_shared}
use native.Mathlib.Omega.{arith}
use Rattle.entering.proofs.showing.show.Goals as goal

pub returns-then-shared-eq0 : goal.returns-then-shared-eq0
returns-then-shared-eq0 c = rw c.if-shared-eq0.true (none_shared _ _)

pub loop-p-preserved : goal.loop-p-preserved
loop-p-preserved c =
    let at = c.loop-p in
    let shown = c.show_term-u in
    rw c.set_mark.ensures
    (one_done shown.result at.invariant (omega arith) (omega (arith, at.invariant.long)) (shown.ensures ∙ ap (show_value _) c.term_at.ensures))
