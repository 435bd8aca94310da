use native.Mathlib.Nat.{lt_of_lt_of_le}
use native.Mathlib.Omega.{arith}
use Rattle.words.proofs.Answers.{true_iff}
use Rattle.reduce.proofs.KeptColumns.{kept_small}
use Rattle.reduce.proofs.GoingPairs.{targets_first, targets_more, targets_all}
use Rattle.reduce.proofs.goings.goings_of.Goals as goal

pub columns_of-requires : goal.columns_of-requires
columns_of-requires c = (omega arith, omega arith)

pub set_bit-m-requires : goal.set_bit-m-requires
set_bit-m-requires c = omega arith

pub near-requires : goal.near-requires
near-requires c = (omega arith, omega arith, omega arith, omega arith)

pub clear_bit-rest-requires : goal.clear_bit-rest-requires
clear_bit-rest-requires c = omega arith

pub loop-rest-init : goal.loop-rest-init
loop-rest-init c =
    let kept = rw c.columns_of.ensures at c.without-kept.ensures in
    let (few, _, _, l) = c.requires in
    (kept, rw (c.set_bit-m.ensures, c.clear_bit-rest.ensures) (targets_first _ _ _ _ _ _ kept few l c.near.ensures))

pub least-s-requires : goal.least-s-requires
least-s-requires c = omega arith

pub same_at-same-requires : goal.same_at-same-requires
same_at-same-requires c =
    let (kept, targets) = c.loop-rest.invariant in
    let (few, long, _, l) = c.requires in
    (long, lt_of_lt_of_le l few, lt_of_lt_of_le (targets.below _ c.least-s.ensures.set) few, kept_small kept)

pub set_bit_if-m-requires : goal.set_bit_if-m-requires
set_bit_if-m-requires c = c.least-s.ensures.below

pub drop_least-rest-requires : goal.drop_least-rest-requires
drop_least-rest-requires c = omega arith

pub loop-rest-smaller : goal.loop-rest-smaller
loop-rest-smaller c = c.drop_least-rest.ensures.less

pub loop-rest-preserved : goal.loop-rest-preserved
loop-rest-preserved c =
    let (kept, targets) = c.loop-rest.invariant in
    let (few, _, _, l) = c.requires in (
      kept,
      targets_more _ _ _ _ _ c.same_at-same.result c.set_bit_if-m.result kept few l targets c.least-s.ensures
          c.drop_least-rest.ensures (true_iff c.same_at-same.ensures) c.set_bit_if-m.ensures,
    )

pub returns : goal.returns
returns c =
    let targets = rw c.loop-rest-test.false at c.loop-rest.invariant.1 in
    let (_, _, _, l) = c.requires in
    record {
      upper_bound = targets.small;
      target_word = targets_all _ _ _ _ _ c.loop-rest.invariant.0 l targets;
    }
