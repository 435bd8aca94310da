-- `with_name`: the place says whether the body lacks the name, and its bit whether the head has it.
use mathlib.Core.Path.{sym, ◌∙◌}
use Rattle.numbering.proofs.Search.{sought}
use Rattle.rule_body.proofs.NamesHeld.{held_missing, held_twice, held_new}
use Rattle.rule_body.proofs.head.with_name.Goals as goal

pub returns-in_default : goal.returns-in_default
returns-in_default c keys xs x at held = held_missing keys xs x held (sought _ _ (sym c.in_default.is ∙ at))

pub returns-then-has_bit : goal.returns-then-has_bit
returns-then-has_bit c keys xs x at held =
    let w = sought _ _ (sym c.in-Some.is ∙ at) in
    held_twice keys xs x held w.0 w.1 (sym c.has_bit.ensures ∙ c.if-has_bit.true)

pub returns : goal.returns
returns c keys xs x at held =
    let w = sought _ _ (sym c.in-Some.is ∙ at) in
    held_new keys xs x held w.0 w.1 (sym c.has_bit.ensures ∙ c.if-has_bit.false) c.set_bit.ensures
