use mathlib.Core.Path.{◌∙◌}
use native.Mathlib.Omega.{arith}
use borrow.Author.Rules.{rules, of_calls}
use lib.Dec.{eqb}
use Rattle.std.proofs.lemmas.Fn.{always_returns_same}
use Rattle.text.specs.Lines.{space}
use Rattle.text.proofs.Cuts.{Cut, cut}
use Rattle.model.proofs.TermsRead.{no_terms, next_malformed, next_outside, next_small, next_within, all_outside, all_within}
use Rattle.model.proofs.read.read_terms.Goals as goal
use Rattle.model.proofs.read.read_terms.Goals.{In-Some}

pub loop-field-init : goal.loop-field-init
loop-field-init c =
    let items = c.into_iter-field-iterator.ensures.into_iter_gives in
    no_terms c.blank-p.ensures (rw items c.split-field-items.ensures.done) (rw items c.split-field-items.ensures.rest)

-- the field at hand
field : (c : In-Some) → Cut space c.loop-field.field-iterator c.in-Some.field.now c.next.new.self
field c =
    let next = c.in-Some.ensures.steps in
    cut space _ _ _ next.0 next.1 (next.2 (λ b. eqb b space) (always_returns_same _ _ _ (λ a r f k. search (rules, of_calls)))).1

pub returns-in-Malformed : goal.returns-in-Malformed
returns-in-Malformed c =
    c.blank.ensures ∙ next_malformed c.loop-field.invariant (field (goal.at.returns-in-Malformed c).In-Some) c.in-Malformed.ensures

pub loop-field-preserved-in-Outside : goal.loop-field-preserved-in-Outside
loop-field-preserved-in-Outside c =
    next_outside c.loop-field.invariant (field (goal.at.loop-field-preserved-in-Outside c).In-Some) c.in-Outside.ensures

pub with_term-p-requires : goal.with_term-p-requires
with_term-p-requires c =
    record {
      count_bound = omega (arith, c.loop-field.invariant.few, (field (goal.at.with_term-p-requires c).In-Some).fewer, c.requires);
      number_le_last_variable = next_small c.in-Some.field.now c.in-Within.ensures;
    }

pub loop-field-preserved : goal.loop-field-preserved
loop-field-preserved c =
    next_within c.loop-field.invariant (field (goal.at.loop-field-preserved c).In-Some) c.in-Within.ensures c.with_term-p.ensures

pub returns-then-outside : goal.returns-then-outside
returns-then-outside c =
    c.blank-then-outside.ensures ∙ all_outside c.loop-field.invariant c.in-None.ensures.steps.0 c.if-outside.true

pub returns : goal.returns
returns c = all_within c.loop-field.invariant c.in-None.ensures.steps.0 c.if-outside.false
