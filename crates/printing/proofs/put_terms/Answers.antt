use Rattle.std.proofs.Common.{arith, rules}
use Rattle.model.specs.Rows.{term_at}
use Rattle.model.specs.Value.{unused_term}
use Rattle.printing.proofs.Put.{none_put, put_unused, put_more}
use Rattle.printing.proofs.put_terms.Goals as goal

pub loop-t-init : goal.loop-t-init
loop-t-init c = none_put _ _ _

pub returns-then-t-eq-UNUSED : goal.returns-then-t-eq-UNUSED
unfolding term_at unused_term
returns-then-t-eq-UNUSED c =
    let inv = c.loop-t.invariant in
    (put_unused inv c.if-t-eq-UNUSED.true, omega (arith, inv.next, inv.within))

pub loop-t-preserved : goal.loop-t-preserved
unfolding term_at unused_term
loop-t-preserved c =
    let (w, near) = c.put_term-at.ensures in
    put_more c.loop-t.invariant c.if-t-eq-UNUSED.false c.loop-t-test.true w near (search rules)
