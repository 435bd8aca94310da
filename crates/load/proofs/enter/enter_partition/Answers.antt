-- `enter_partition`: the line is turned back by the first of its checks, or its partition is declared.
use mathlib.Core.Path.{sym, ◌∙◌}
use Rattle.model.specs.Fields.{partition_line}
use Rattle.policy_text.specs.Text.{partitions as partition_block}
use Rattle.policy_lines.proofs.Limits.{partition_limits}
use Rattle.load.proofs.Blocks.{entered_back, entered_more}
use Rattle.load.proofs.More.{view_count_of, partition_count_of}
use Rattle.load.proofs.PartitionFaults.{partition_turned_back, new_partition, new_partition_value, partition_declared}
use Rattle.load.proofs.enter.enter_partition.Goals as goal

pub partition_fault-fault-requires : goal.partition_fault-fault-requires
partition_fault-fault-requires c = partition_limits (partition_line c.args.line.now) _ c.read_partition-e.ensures

pub returns-then-fault-ne0 : goal.returns-then-fault-ne0
returns-then-fault-ne0 c = λ d e.
    let l = c.args.line.now in
    let line = c.read_partition-e.ensures in
    let views = view_count_of d _ e in
    let count = partition_count_of d _ e in
    entered_back d l partition_block _ _ e
    (partition_turned_back d l _ _ _ views count line _ (c.partition_fault-fault.ensures.fault_of_partition d (partition_line l) views count line)
    c.if-fault-ne0.true)

pub with_partition-r-requires : goal.with_partition-r-requires
with_partition-r-requires c = c.partition_fault-fault.ensures.partitions_lt_most_partitions c.if-fault-ne0.false

pub returns : goal.returns
returns c = λ d e.
    let l = c.args.line.now in
    let line = c.read_partition-e.ensures in
    let views = view_count_of d _ e in
    let count = partition_count_of d _ e in
    let fault = sym c.if-fault-ne0.false ∙ c.partition_fault-fault.ensures.fault_of_partition d (partition_line l) views count line in
    entered_more d l partition_block _ _
    (c.with_partition-r.ensures d (new_partition d l _ _ _ views count line fault) e (new_partition_value d l _ _ _ views count line fault))
    (partition_declared d l _ _ _ views count line fault)
