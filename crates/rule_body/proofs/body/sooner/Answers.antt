-- `sooner`: the cases are the definition's.
use mathlib.Core.Path.{refl}
use borrow.Author.Rules.{rules}
use Rattle.rule_body.specs.Body.{soonest}
use Rattle.rule_body.proofs.body.sooner.Goals as goal

pub returns-in-Some-Some : goal.returns-in-Some-Some
unfolding soonest
returns-in-Some-Some c = rw (c.in-Some-Some.is-0, c.in-Some-Some.is-1) (search rules)

pub returns-in-Some-None : goal.returns-in-Some-None
unfolding soonest
returns-in-Some-None c = rw (c.in-Some-None.is-1, c.in-Some-None.is-0) refl

pub returns-in-None-default : goal.returns-in-None-default
unfolding soonest
returns-in-None-default c = rw c.in-None-default.is-0 refl
