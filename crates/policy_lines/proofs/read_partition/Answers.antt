-- `read_partition`: the views are the fields behind the number.
use mathlib.Core.Path.{◌∙◌}
use Prim.Native.Nat.{◌+◌}
use borrow.Author.Tests.{not-true, not-false}
use Rattle.text.specs.Numeral.{numeral}
use Rattle.text.proofs.Parts.{first_length}
use Rattle.text.specs.Lines.{space, parts_from}
use Rattle.model.specs.Fields.{every, partition_line}
use Rattle.policy_lines.proofs.Numbered.{NumberRead}
use Rattle.policy_lines.proofs.PartitionRead.{partition_read, partition_unnumbered, partition_malformed, partition_outside, partition_past, partition_within}
use Rattle.policy_lines.proofs.read_partition.Goals as goal
use Rattle.policy_lines.proofs.read_partition.Goals.{After-read_numeral-number}

pub slice_bounds-read_numeral-end : goal.slice_bounds-read_numeral-end
slice_bounds-read_numeral-end c = first_length space _ _ c.first-n.ensures

pub returns-in-Malformed : goal.returns-in-Malformed
returns-in-Malformed c =
    c.no_partition.ensures
    ∙ partition_unnumbered _ c.first-n.ensures c.read_numeral-number.ensures c.in-Malformed.is

whole : (c : After-read_numeral-number) →
    let s = c.args.line.now in
    NumberRead (partition_line s) c.read_numeral-number.result (every numeral (parts_from space s (c.first-n.result + 1)))
whole c = partition_read _ c.first-n.ensures c.read_numeral-number.ensures

pub returns-then-not-listed : goal.returns-then-not-listed
returns-then-not-listed c =
    c.no_partition-then-not-listed.ensures
    ∙ partition_malformed (whole (goal.at.returns-then-not-listed c).After-read_numeral-number) c.listed_after-listed.ensures (not-true _ c.if-not-listed.true)

pub returns-then-listed : goal.returns-then-listed
returns-then-listed c =
    c.no_partition-then-listed.ensures
    ∙ partition_outside (whole (goal.at.returns-then-listed c).After-read_numeral-number) c.listed_after-listed.ensures (not-false _ c.if-not-listed.false)
    c.if-listed.true c.in_default.not-Malformed

pub returns-then-k-eq0 : goal.returns-then-k-eq0
returns-then-k-eq0 c =
    c.no_partition-then-k-eq0.ensures
    ∙ partition_past (whole (goal.at.returns-then-k-eq0 c).After-read_numeral-number) c.listed_after-listed.ensures (not-false _ c.if-not-listed.false)
    c.in_default.not-Malformed c.up_to-k.ensures c.if-k-eq0.true

pub returns : goal.returns
returns c =
    partition_within (whole (goal.at.returns c).After-read_numeral-number) c.listed_after-listed.ensures (not-false _ c.if-not-listed.false) c.if-listed.false
    c.up_to-k.ensures c.if-k-eq0.false
