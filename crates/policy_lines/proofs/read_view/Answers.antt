-- `read_view`: the first space parts the number from the line of terms.
use mathlib.Core.Path.{◌∙◌}
use Prim.Native.Nat.{◌+◌, ◌-◌, ◌<◌}
use native.Mathlib.Omega.{arith}
use borrow.Author.Tests.{not-true, not-false}
use lib.ListN.{length, take, drop}
use Rattle.text.specs.Lines.{space}
use Rattle.text.proofs.Parts.{first_length, first_inside}
use Rattle.model.specs.Fields.{query_line, view_line}
use Rattle.policy_lines.proofs.Numbered.{NumberRead}
use Rattle.policy_lines.proofs.ViewRead.{view_alone, view_unnumbered, view_read, view_malformed, view_outside, view_past, view_within}
use Rattle.policy_lines.proofs.read_view.Goals as goal
use Rattle.policy_lines.proofs.read_view.Goals.{After-read_line-view, In_default}

pub returns-then-n-line : goal.returns-then-n-line
returns-then-n-line c = c.no_view.ensures ∙ view_alone _ c.first-n.ensures c.if-n-line.true

pub slice_bounds-read_numeral-end : goal.slice_bounds-read_numeral-end
slice_bounds-read_numeral-end c = first_length space _ _ c.first-n.ensures

pub returns-in-Malformed : goal.returns-in-Malformed
returns-in-Malformed c =
    c.no_view-in-Malformed.ensures
    ∙ view_unnumbered _ c.first-n.ensures c.read_numeral-number.ensures c.in-Malformed.is

-- a line of terms follows the first space
parted : (c : In_default) →
    c.first-n.result < length c.args.line.now
parted c = first_inside space _ _ c.first-n.ensures c.if-n-line.false

pub overflow_add-from : goal.overflow_add-from
overflow_add-from c = omega (arith, parted c)

pub slice_bounds-read_line-count : goal.slice_bounds-read_line-count
slice_bounds-read_line-count c = omega (arith, parted c)

pub slice_bounds-read_line-start : goal.slice_bounds-read_line-start
slice_bounds-read_line-start c = omega (arith, parted c)

whole : (c : After-read_line-view) →
    let s = c.args.line.now in
    let n = c.first-n.result in
    NumberRead (view_line s) c.read_numeral-number.result (query_line (take (length s - (n + 1)) (drop (n + 1) s)))
whole c =
    view_read _ c.first-n.ensures c.read_numeral-number.ensures (parted (goal.at.After-read_line-view c).In_default)

pub returns-then-not-view : goal.returns-then-not-view
returns-then-not-view c =
    c.no_view-then-not-view.ensures ∙ view_malformed (whole (goal.at.returns-then-not-view c).After-read_line-view) c.read_line-view.ensures (not-true _ c.if-not-view.true)

pub returns-then-view : goal.returns-then-view
returns-then-view c =
    c.no_view-then-view.ensures
    ∙ view_outside (whole (goal.at.returns-then-view c).After-read_line-view) c.read_line-view.ensures (not-false _ c.if-not-view.false) c.if-view.true
    c.in_default.not-Malformed

pub returns-then-k-eq0 : goal.returns-then-k-eq0
returns-then-k-eq0 c =
    c.no_view-then-k-eq0.ensures
    ∙ view_past (whole (goal.at.returns-then-k-eq0 c).After-read_line-view) c.read_line-view.ensures (not-false _ c.if-not-view.false) c.in_default.not-Malformed
    c.up_to-k.ensures c.if-k-eq0.true

pub returns : goal.returns
returns c =
    view_within (whole (goal.at.returns c).After-read_line-view) c.read_line-view.ensures (not-false _ c.if-not-view.false) c.if-view.false
    c.up_to-k.ensures c.if-k-eq0.false
