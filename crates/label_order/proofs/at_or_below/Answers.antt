-- `at_or_below`: the views of one are none, or the tables are equal and the views of the other include them.
use mathlib.Core.Path.{sym, ap₂, ◌∙◌}
use Rattle.words.specs.Sets.{include}
use Rattle.label_order.proofs.Halves.{below_bare, other_table, same_table}
use Rattle.label_order.proofs.at_or_below.Goals as goal

pub returns-then-views-eq0 : goal.returns-then-views-eq0
returns-then-views-eq0 c = sym (below_bare _ _ (sym c.high_half-views.ensures ∙ c.if-views-eq0.true))

pub returns-then-low_half : goal.returns-then-low_half
returns-then-low_half c =
    sym (other_table _ _ (λ e. c.if-views-eq0.false (c.high_half-views.ensures ∙ e))
    (λ e. c.if-low_half.true (c.low_half.ensures ∙ e ∙ sym c.low_half-2.ensures)))

pub returns : goal.returns
returns c =
    c.includes.ensures
    ∙ ap₂ (include 64) c.high_half.ensures c.high_half-views.ensures
    ∙ sym (same_table _ _ (λ e. c.if-views-eq0.false (c.high_half-views.ensures ∙ e))
    (sym c.low_half.ensures ∙ c.if-low_half.false ∙ c.low_half-2.ensures)
    c.ranges.y.fits)
