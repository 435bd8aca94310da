use mathlib.Core.Path.{refl, ap, ◌∙◌}
use mathlib.Core.List.{List}
use Prim.Native.Nat.{ℕ}
use Rattle.word_list.proofs.Value.{words_are}
use Rattle.grants.specs.Searching.{holding}
use Rattle.grants.proofs.Gathering.{holding_more, holding_all}
use Rattle.grants.proofs.searching.holding.Goals as goal

pub loop-i-init : goal.loop-i-init
unfolding holding
loop-i-init c = refl

pub loop-i-preserved : goal.loop-i-preserved
loop-i-preserved c =
    holding_more _ _ c.loop-i-test.true c.has_bit-on.ensures c.set_bit_if-word.ensures c.loop-i.invariant

pub returns : goal.returns
returns c = λ ws e.
    holding_all _ _ c.loop-i-test.false c.loop-i.invariant ∙ ap (λ (k : List ℕ). holding k c.args.v) (words_are _ ws e)
