-- `lines_left`: where no line could go to another all stay; else what the search leaves.
use mathlib.Core.Path.{sym, ◌∙◌}
use Rattle.reduce.proofs.Staying.{nothing_goes}
use Rattle.reduce.proofs.taking.lines_left.Goals as goal

pub returns-then-not-meets : goal.returns-then-not-meets
returns-then-not-meets c = λ Q g.
    rw c.low_bits.ensures
    (nothing_goes Q _ (c.goings-g.ensures Q g) g.laid.lines
    (sym c.meets.ensures ∙ c.if-not-meets.true) _ (sym g.count))

pub returns : goal.returns
returns c = λ Q g. c.searched.ensures Q g (c.goings-g.ensures Q g)
