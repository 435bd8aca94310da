use mathlib.Core.Path.{◌∙◌}
use borrow.Author.Rules.{rules, of_calls}
use lib.Dec.{eqb}
use Rattle.std.proofs.lemmas.Fn.{always_returns_same}
use Rattle.text.specs.Lines.{space}
use Rattle.text.specs.Numeral.{numeral}
use Rattle.text.proofs.Cuts.{Cut, cut}
use Rattle.model.specs.Limits.{most_views, up_to}
use Rattle.model.proofs.FieldsRead.{read_none}
use Rattle.policy_lines.specs.Value.{view_list}
use Rattle.policy_lines.proofs.ViewsRead.{next_malformed, next_outside, next_bounds, next_within, all_outside, all_within}
use Rattle.policy_lines.proofs.read_views.Goals as goal
use Rattle.policy_lines.proofs.read_views.Goals.{In-Some}

pub loop-field-init : goal.loop-field-init
loop-field-init c =
    let items = c.into_iter-field-iterator.ensures.into_iter_gives in
    read_none numeral (up_to most_views) view_list _ _ _ c.none_listed-l.ensures (rw items c.split-field-items.ensures.done)
    (rw items c.split-field-items.ensures.rest)

-- the field at hand
field : (c : In-Some) → Cut space c.loop-field.field-iterator c.in-Some.field.now c.next.new.self
field c =
    let next = c.in-Some.ensures.steps in
    cut space _ _ _ next.0 next.1 (next.2 (λ b. eqb b space) (always_returns_same _ _ _ (λ a r f k. search (rules, of_calls)))).1

pub returns-in-Malformed : goal.returns-in-Malformed
returns-in-Malformed c =
    c.no_views.ensures
    ∙ next_malformed c.loop-field.invariant (field (goal.at.returns-in-Malformed c).In-Some) c.read_numeral-number.ensures c.in-Malformed.is

pub loop-field-preserved-then-v-eq0 : goal.loop-field-preserved-then-v-eq0
loop-field-preserved-then-v-eq0 c =
    next_outside c.loop-field.invariant (field (goal.at.loop-field-preserved-then-v-eq0 c).In-Some) c.read_numeral-number.ensures
    c.in_default.not-Malformed c.up_to-v.ensures c.if-v-eq0.true

pub with_view-l-requires : goal.with_view-l-requires
with_view-l-requires c = next_bounds _ c.up_to-v.ensures c.if-v-eq0.false

pub loop-field-preserved : goal.loop-field-preserved
loop-field-preserved c =
    next_within c.loop-field.invariant (field (goal.at.loop-field-preserved c).In-Some) c.read_numeral-number.ensures c.up_to-v.ensures
    c.if-v-eq0.false c.with_view-l.ensures

pub returns-then-outside : goal.returns-then-outside
returns-then-outside c =
    c.no_views-then-outside.ensures ∙ all_outside c.loop-field.invariant c.in-None.ensures.steps.0 c.if-outside.true

pub returns : goal.returns
returns c = all_within c.loop-field.invariant c.in-None.ensures.steps.0 c.if-outside.false
