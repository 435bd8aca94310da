-- `partition_fault`: each test is the next check of a partition's line; behind them all there is room for the partition.
use native.Mathlib.Omega.{arith}
use borrow.Author.Tests.{not-true, not-false}
use Rattle.load.proofs.PartitionFaults.{partition_malformed, partition_outside, partition_out_of_turn, partition_not_ascending}
use Rattle.load.proofs.PartitionFaults.{partition_unknown, partition_taken}
use Rattle.load.proofs.enter.partition_fault.Goals as goal

pub returns-then-not-e : goal.returns-then-not-e
returns-then-not-e c =
    record {
      fault_of_partition = λ d o v e f. partition_malformed d o _ _ _ v e f (not-true _ c.if-not-e.true);
      partitions_lt_most_partitions = λ z. omega arith;
    }

pub returns-then-e : goal.returns-then-e
returns-then-e c =
    record {
      fault_of_partition = λ d o v e f. partition_outside d o _ _ _ v e f (not-false _ c.if-not-e.false) c.if-e.true;
      partitions_lt_most_partitions = λ z. omega arith;
    }

pub overflow_sub-e : goal.overflow_sub-e
overflow_sub-e c = (c.requires (not-false _ c.if-not-e.false) c.if-e.false).0

pub returns-then-e-partitions : goal.returns-then-e-partitions
returns-then-e-partitions c =
    let ok = not-false _ c.if-not-e.false in
    let inside = c.if-e.false in
    let limits = c.requires ok inside in
    record {
      fault_of_partition = λ d o v e f. partition_out_of_turn d o _ _ _ v e f ok inside limits.0 c.if-e-partitions.true;
      partitions_lt_most_partitions = λ z. omega arith;
    }

pub returns-then-not-l : goal.returns-then-not-l
returns-then-not-l c =
    let ok = not-false _ c.if-not-e.false in
    let inside = c.if-e.false in
    let limits = c.requires ok inside in
    record {
      fault_of_partition = λ d o v e f. partition_not_ascending d o _ _ _ v e f ok inside limits.0 c.if-e-partitions.false (not-true _ c.if-not-l.true);
      partitions_lt_most_partitions = λ z. omega arith;
    }

pub returns-then-views-l : goal.returns-then-views-l
returns-then-views-l c =
    let ok = not-false _ c.if-not-e.false in
    let inside = c.if-e.false in
    let limits = c.requires ok inside in
    let ascending = not-false _ c.if-not-l.false in
    record {
      fault_of_partition = λ d o v e f. partition_unknown d o _ _ _ v e f ok inside limits.0 c.if-e-partitions.false ascending c.if-views-l.true;
      partitions_lt_most_partitions = λ z. omega arith;
    }

pub returns : goal.returns
returns c =
    let ok = not-false _ c.if-not-e.false in
    let inside = c.if-e.false in
    let limits = c.requires ok inside in
    let ascending = not-false _ c.if-not-l.false in
    record {
      fault_of_partition = λ d o v e f. partition_taken d o _ _ _ v e f ok inside limits.0 c.if-e-partitions.false ascending c.if-views-l.false;
      partitions_lt_most_partitions = λ z. omega (arith, limits.0, limits.1, c.if-e-partitions.false);
    }
