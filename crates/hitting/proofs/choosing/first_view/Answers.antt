use mathlib.Core.Path.{sym, ◌∙◌}
use Rattle.hitting.proofs.LeastWeight.{weighed}
use Rattle.hitting.proofs.Leading.{some_set, unled_none, unled_more, unled_first}
use Rattle.hitting.proofs.choosing.first_view.Goals as goal

pub loop-v-init : goal.loop-v-init
loop-v-init c = let (t, some) = c.requires in unled_none _ _ _ t some

pub weight_with-requires : goal.weight_with-requires
weight_with-requires c = let t = c.requires.0 in weighed _ _ _ (some_set _ _ _ t) t.filled c.loop-v-test.true

pub returns-then-weight_with-least : goal.returns-then-weight_with-least
returns-then-weight_with-least c =
    unled_first _ _ _ _ c.loop-v.invariant (sym c.weight_with.ensures ∙ c.if-weight_with-least.true)

pub loop-v-preserved : goal.loop-v-preserved
loop-v-preserved c = unled_more _ _ _ _ c.loop-v.invariant (λ e. c.if-weight_with-least.false (c.weight_with.ensures ∙ e))
