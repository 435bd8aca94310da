-- `check_line`: each answer is the first check that the line fails.
use mathlib.Core.Path.{sym, ◌∙◌}
use Rattle.model.proofs.Misfit.{columns_fault, shown_clashes, hidden_clashes, fitting}
use Rattle.model.proofs.check.check_line.Goals as goal

pub returns-then-f-ne0 : goal.returns-then-f-ne0
returns-then-f-ne0 c = λ w e A t m i g. columns_fault c.check_columns-f.ensures w e A t m i g c.if-f-ne0.true

pub returns-then-meets : goal.returns-then-meets
returns-then-meets c =
    λ w e A t m i g.
    shown_clashes c.check_columns-f.ensures w e A t m i g c.if-f-ne0.false (sym c.meets.ensures ∙ c.if-meets.true)

pub returns-then-meets-2 : goal.returns-then-meets-2
returns-then-meets-2 c =
    λ w e A t m i g.
    hidden_clashes c.check_columns-f.ensures w e A t m i g c.if-f-ne0.false
    (sym c.meets.ensures ∙ c.if-meets.false) (sym c.meets-2.ensures ∙ c.if-meets-2.true)

pub returns : goal.returns
returns c =
    λ w e A t m i g.
    fitting c.check_columns-f.ensures w e A t m i g c.if-f-ne0.false
    (sym c.meets.ensures ∙ c.if-meets.false) (sym c.meets-2.ensures ∙ c.if-meets-2.false)
