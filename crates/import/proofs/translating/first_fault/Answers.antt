-- `first_fault`: the tests are the definition's.
use mathlib.Core.Path.{sym, ◌∙◌}
use Rattle.import.specs.Translating.{first_of}
use Rattle.import.proofs.Faults.{first_some, first_none}
use Rattle.import.proofs.translating.first_fault.Goals as goal

pub returns-then-is_some : goal.returns-then-is_some
returns-then-is_some c = first_some _ _ (sym c.if-is_some.ensures)

pub returns-then-h : goal.returns-then-h
unfolding first_of
returns-then-h c = sym (first_none c.args.b c.args.h (sym c.if-is_some.ensures) ∙ rw c.if-h.true)

pub returns-then-h-2 : goal.returns-then-h-2
unfolding first_of
returns-then-h-2 c = sym (first_none c.args.b c.args.h (sym c.if-is_some.ensures) ∙ rw (c.if-h.false, c.if-h-2.true))

pub returns : goal.returns
unfolding first_of
returns c = sym (first_none c.args.b c.args.h (sym c.if-is_some.ensures) ∙ rw (c.if-h.false, c.if-h-2.false))
