-- `near`: the word has the rows before `s` that are near.
use Rattle.words.specs.Sets.{Upto}
use Rattle.reduce.specs.LineTargets.{Near}
use Rattle.reduce.proofs.goings.near.Given as goal

abbrev pub invariant-loop-s : goal.invariant-loop-s
invariant-loop-s l = Upto (Near l.lines l.words l.a l.kept) l.s l.m
