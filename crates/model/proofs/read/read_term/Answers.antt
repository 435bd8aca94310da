-- `read_term`: each answer is what the mark and the numeral say.
use mathlib.Core.Path.{◌≡◌, sym, ap, ap₂, ◌∙◌}
use native.Mathlib.Omega.{arith}
use lib.ListN.{get_or}
use Rattle.text.specs.Value.{numeral_value}
use Rattle.model.specs.Fields.{term}
use Rattle.model.specs.Marks.{mark_of}
use Rattle.model.specs.Parsed.{field_value}
use Rattle.text.proofs.Parts.{to_end}
use Rattle.model.proofs.TermFields.{marked, value_within, value_outside, empty_read, unmarked_read, marked_read}
use Rattle.model.proofs.read.read_term.Goals as goal
use Rattle.model.proofs.read.read_term.Goals.{After-read_numeral}

pub returns-then-field-eq0 : goal.returns-then-field-eq0
returns-then-field-eq0 c = empty_read _ c.if-field-eq0.true

pub returns-then-mark-eq0 : goal.returns-then-mark-eq0
returns-then-mark-eq0 c = unmarked_read _ (omega arith) (sym c.mark_of-mark.ensures ∙ c.if-mark-eq0.true)

-- the field by what `mark_of` and `read_numeral` gave
by_mark : (c : After-read_numeral) →
    marked c.mark_of-mark.result c.read_numeral.result ≡ field_value (term c.args.field.now)
by_mark c =
    let f = c.args.field.now in
    let m : c.mark_of-mark.result ≡ mark_of (get_or f 0 0) = c.mark_of-mark.ensures in
    ap₂ marked m (c.read_numeral.ensures ∙ ap numeral_value (to_end 1 f))
    ∙ marked_read f (omega arith) (λ e. c.if-mark-eq0.false (m ∙ e))

pub returns-in-Malformed : goal.returns-in-Malformed
returns-in-Malformed c = ap (marked _) (sym c.in-Malformed.is) ∙ by_mark (goal.at.returns-in-Malformed c).After-read_numeral

pub returns-in-Large : goal.returns-in-Large
returns-in-Large c = ap (marked _) (sym c.in-Large.is) ∙ by_mark (goal.at.returns-in-Large c).After-read_numeral

pub returns-then-within : goal.returns-then-within
returns-then-within c =
    value_within _ _ (sym c.within.ensures ∙ c.if-within.true)
    ∙ ap (marked _) (sym c.in-Value.is) ∙ by_mark (goal.at.returns-then-within c).After-read_numeral

pub returns-else-within : goal.returns-else-within
returns-else-within c =
    value_outside _ _ (sym c.within.ensures ∙ c.if-within.false)
    ∙ ap (marked _) (sym c.in-Value.is) ∙ by_mark (goal.at.returns-else-within c).After-read_numeral
