-- `read_line`: the first space parts the table's number from the terms.
use mathlib.Core.Path.{sym, ◌∙◌}
use Prim.Native.Nat.{◌<◌}
use native.Mathlib.Omega.{arith}
use borrow.Author.Tests.{not-true, not-false}
use lib.ListN.{length}
use Rattle.text.specs.Lines.{space}
use Rattle.text.proofs.Parts.{first_length, first_inside}
use Rattle.model.proofs.LineRead.{LineRead, line_alone, line_unnumbered, line_read, line_malformed, line_table_past, line_terms_past, line_within_lem}
use Rattle.model.proofs.read.read_line.Goals as goal
use Rattle.model.proofs.read.read_line.Goals.{After-read_terms-p, In_default}

pub returns-then-n-s : goal.returns-then-n-s
returns-then-n-s c = c.blank.ensures ∙ line_alone _ (sym c.first-n.ensures ∙ c.if-n-s.true)

pub slice_bounds-read_numeral-end : goal.slice_bounds-read_numeral-end
slice_bounds-read_numeral-end c = first_length space _ _ c.first-n.ensures

pub returns-in-Malformed : goal.returns-in-Malformed
returns-in-Malformed c =
    c.blank-in-Malformed.ensures
    ∙ line_unnumbered _ c.first-n.ensures c.if-n-s.false c.read_numeral-number.ensures
    c.in-Malformed.is

-- terms follow the first space
parted : (c : In_default) →
    c.first-n.result < length c.args.s.now
parted c = first_inside space _ _ c.first-n.ensures c.if-n-s.false

pub overflow_add-from : goal.overflow_add-from
overflow_add-from c = omega (arith, parted c)

pub slice_bounds-read_terms-count : goal.slice_bounds-read_terms-count
slice_bounds-read_terms-count c = omega (arith, parted c)

pub slice_bounds-read_terms-start : goal.slice_bounds-read_terms-start
slice_bounds-read_terms-start c = omega (arith, parted c)

whole : (c : After-read_terms-p) →
    LineRead c.args.s.now c.read_numeral-number.result c.read_terms-p.result
whole c =
    line_read _ c.first-n.ensures c.if-n-s.false c.read_numeral-number.ensures c.read_terms-p.ensures

pub returns-then-not-p : goal.returns-then-not-p
returns-then-not-p c = line_malformed (whole (goal.at.returns-then-not-p c).After-read_terms-p) (not-true _ c.if-not-p.true)

pub returns-then-table-eq0 : goal.returns-then-table-eq0
returns-then-table-eq0 c =
    c.blank-then-table-eq0.ensures
    ∙ line_table_past (whole (goal.at.returns-then-table-eq0 c).After-read_terms-p) (not-false _ c.if-not-p.false) c.in_default.not-Malformed
    c.up_to-table.ensures c.if-table-eq0.true

pub returns-then-p : goal.returns-then-p
returns-then-p c =
    line_terms_past (whole (goal.at.returns-then-p c).After-read_terms-p) (not-false _ c.if-not-p.false) c.up_to-table.ensures c.if-table-eq0.false
    c.if-p.true

pub returns : goal.returns
returns c =
    line_within_lem (whole (goal.at.returns c).After-read_terms-p) (not-false _ c.if-not-p.false) c.up_to-table.ensures c.if-table-eq0.false
    c.if-p.false
