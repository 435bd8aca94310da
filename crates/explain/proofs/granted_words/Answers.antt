use Rattle.std.proofs.Common.{rules, arith, refl}
use Rattle.explain.proofs.Gathered.{gathered_none, gathered_few, gathered_more, gathered_all, granted_more}
use Rattle.explain.proofs.granted_words.Goals as goal

pub loop-w-init : goal.loop-w-init
loop-w-init c = gathered_none (search rules) c.no_words-r.ensures (λ ws. refl)

pub loop-w-preserved : goal.loop-w-preserved
loop-w-preserved c =
    let h = c.loop-w.invariant in
    gathered_more _ _ _ h c.in-Some.ensures.steps (omega (arith, c.push-r.ensures.count_value)) (λ ws e.
    rw (granted_more _ _ _ c.high_half-views.ensures ws h.behind) (c.push-r.ensures.by_index _ (h.words ws e)))

pub returns-clause-count_le_count : goal.returns-clause-count_le_count
returns-clause-count_le_count c = omega (arith, gathered_few c.loop-w.invariant (search rules))

pub returns-clause-by_index : goal.returns-clause-by_index
returns-clause-by_index c = gathered_all c.loop-w.invariant c.in-None.ensures.steps.0
