-- `put_rules`. The loop's invariant: the rules so far have their bytes, and those to come are the rules of the rest.
use Rattle.std.specs.Slice.Iter.{split_inclusive_rest}
use Rattle.mode_rules.proofs.Progress.{Progress}
use Rattle.mode_rules.proofs.put_rules.Given as goal

abbrev pub invariant-loop-rule : goal.invariant-loop-rule
invariant-loop-rule l =
    (goal.iterator-loop-rule).can_next l.rule-iterator × (goal.iterator-loop-rule).is_finite l.rule-iterator
    × Progress l.tables l.rules (split_inclusive_rest l.rule-iterator) l.initial.out l.out l.k l.to
