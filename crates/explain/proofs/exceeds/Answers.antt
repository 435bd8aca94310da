-- `exceeds`: the two tests, one after the other.
use mathlib.Core.Path.{sym, ap, ◌∙◌}
use mathlib.Core.Bool.{Bool, not, ◌&&◌}
use lib.Dec.{eqb}
use Rattle.explain.specs.Explanation.{exceeds}
use Rattle.explain.proofs.exceeds.Goals as goal

pub returns-then-includes : goal.returns-then-includes
unfolding exceeds
returns-then-includes c =
    let s = c.args in
    ap (λ (b : Bool). b && not (eqb s.v s.w)) (sym c.if-includes.true ∙ c.includes.ensures)

pub returns-else-includes : goal.returns-else-includes
unfolding exceeds
returns-else-includes c =
    let s = c.args in
    c.if-includes.false ∙ ap (λ (b : Bool). b && not (eqb s.v s.w)) (sym c.if-includes.false ∙ c.includes.ensures)
