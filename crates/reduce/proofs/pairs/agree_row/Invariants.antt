-- `agree_row`: the word has the rows before `u` that have the term.
use mathlib.Core.Path.{◌≡◌}
use Rattle.words.specs.Sets.{Upto}
use Rattle.model.specs.Rows.{laid_term}
use Rattle.reduce.proofs.pairs.agree_row.Given as goal

abbrev pub invariant-loop-u : goal.invariant-loop-u
invariant-loop-u l = Upto (λ k. l.t ≡ laid_term l.lines k l.q) l.u l.m
