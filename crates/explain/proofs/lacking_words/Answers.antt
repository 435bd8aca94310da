use Rattle.std.proofs.Common.{rules, arith, ap, sym, ◌∙◌}
use Rattle.word_list.specs.Value.{words_value}
use Rattle.explain.proofs.Gathered.{gathered_none, gathered_few, gathered_more, gathered_all, lacking_none, lacking_all, lacking_told, lacking_untold}
use Rattle.explain.proofs.lacking_words.Goals as goal

pub loop-w-init : goal.loop-w-init
loop-w-init c = gathered_none (search rules) c.no_words-r.ensures (lacking_none _)

pub loop-w-preserved-then-is_told : goal.loop-w-preserved-then-is_told
loop-w-preserved-then-is_told c =
    let h = c.loop-w.invariant in
    gathered_more _ _ _ h c.in-Some.ensures.steps c.add_word-r.ensures.count_bound (λ ws e.
    rw (lacking_told _ _ _ c.high_half-views.ensures ws h.behind (sym (c.is_told.ensures ws e) ∙ c.if-is_told.true))
    (c.add_word-r.ensures.by_index _ (h.words ws e)))

pub loop-w-preserved : goal.loop-w-preserved
loop-w-preserved c =
    let h = c.loop-w.invariant in
    gathered_more _ _ _ h c.in-Some.ensures.steps (omega arith) (λ ws e.
    rw (lacking_untold _ _ _ c.high_half-views.ensures ws h.behind (sym (c.is_told.ensures ws e) ∙ c.if-is_told.false))
    (h.words ws e))

pub returns-clause-count_le_count : goal.returns-clause-count_le_count
returns-clause-count_le_count c = omega (arith, gathered_few c.loop-w.invariant (search rules))

pub returns-clause-by_index : goal.returns-clause-by_index
returns-clause-by_index c = λ ws e. gathered_all c.loop-w.invariant c.in-None.ensures.steps.0 ws e ∙ ap words_value (lacking_all _ ws)
