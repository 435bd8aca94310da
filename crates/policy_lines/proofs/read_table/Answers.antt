-- `read_table`: the first space parts the number from the columns.
use mathlib.Core.Path.{◌∙◌}
use Prim.Native.Nat.{◌+◌, ◌-◌, ◌<◌}
use native.Mathlib.Omega.{arith}
use lib.ListN.{length, take, drop}
use Rattle.text.specs.Numeral.{numeral}
use Rattle.text.specs.Value.{numeral_value}
use Rattle.text.specs.Lines.{space}
use Rattle.text.proofs.Parts.{first_length, first_inside}
use Rattle.model.specs.Fields.{table_line}
use Rattle.policy_lines.proofs.Numbered.{NumberRead}
use Rattle.policy_lines.proofs.TableRead.{table_alone, table_unnumbered, table_read, columns_malformed, table_past, columns_past, table_within}
use Rattle.policy_lines.proofs.read_table.Goals as goal
use Rattle.policy_lines.proofs.read_table.Goals.{After-read_numeral-columns, In_default}

pub returns-then-n-line : goal.returns-then-n-line
returns-then-n-line c = c.no_table.ensures ∙ table_alone _ c.first-n.ensures c.if-n-line.true

pub slice_bounds-read_numeral-end : goal.slice_bounds-read_numeral-end
slice_bounds-read_numeral-end c = first_length space _ _ c.first-n.ensures

pub returns-in-Malformed : goal.returns-in-Malformed
returns-in-Malformed c =
    c.no_table-in-Malformed.ensures
    ∙ table_unnumbered _ c.first-n.ensures c.read_numeral-number.ensures c.in-Malformed.is

-- the columns follow the first space
parted : (c : In_default) →
    c.first-n.result < length c.args.line.now
parted c = first_inside space _ _ c.first-n.ensures c.if-n-line.false

pub overflow_add-from : goal.overflow_add-from
overflow_add-from c = omega (arith, parted c)

pub slice_bounds-read_numeral-count : goal.slice_bounds-read_numeral-count
slice_bounds-read_numeral-count c = omega (arith, parted c)

pub slice_bounds-read_numeral-start : goal.slice_bounds-read_numeral-start
slice_bounds-read_numeral-start c = omega (arith, parted c)

whole : (c : After-read_numeral-columns) →
    let s = c.args.line.now in
    let n = c.first-n.result in
    NumberRead (table_line s) c.read_numeral-number.result (numeral (take (length s - (n + 1)) (drop (n + 1) s)))
whole c =
    table_read _ c.first-n.ensures c.read_numeral-number.ensures (parted (goal.at.After-read_numeral-columns c).In_default)

pub returns-in-Malformed-columns : goal.returns-in-Malformed-columns
unfolding numeral_value
returns-in-Malformed-columns c =
    c.no_table-in-Malformed-columns.ensures ∙ columns_malformed (whole (goal.at.returns-in-Malformed-columns c).After-read_numeral-columns) c.read_numeral-columns.ensures c.in-Malformed-columns.is

pub returns-then-t-eq0 : goal.returns-then-t-eq0
unfolding numeral_value
returns-then-t-eq0 c =
    c.no_table-then-t-eq0.ensures
    ∙ table_past (whole (goal.at.returns-then-t-eq0 c).After-read_numeral-columns) c.read_numeral-columns.ensures c.in_default.not-Malformed
    c.in_default-columns.not-Malformed c.up_to-t.ensures c.if-t-eq0.true

pub returns-then-w-eq0 : goal.returns-then-w-eq0
unfolding numeral_value
returns-then-w-eq0 c =
    c.no_table-then-w-eq0.ensures
    ∙ columns_past (whole (goal.at.returns-then-w-eq0 c).After-read_numeral-columns) c.read_numeral-columns.ensures c.in_default.not-Malformed
    c.in_default-columns.not-Malformed c.up_to-w.ensures c.if-w-eq0.true

pub returns : goal.returns
unfolding numeral_value
returns c =
    table_within (whole (goal.at.returns c).After-read_numeral-columns) c.read_numeral-columns.ensures c.up_to-t.ensures c.if-t-eq0.false
    c.up_to-w.ensures c.if-w-eq0.false
