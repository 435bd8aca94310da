-- `agree_word`: the word has the pairs of the targets that were looked at.
use mathlib.Core.Path.{◌≡◌}
use Rattle.model.specs.Rows.{laid_term}
use Rattle.reduce.specs.PairNumbers.{line_of, target_of}
use Rattle.reduce.proofs.Links.{RowsSet}
use Rattle.reduce.proofs.pairs.agree_word.Given as goal

abbrev pub invariant-loop-rest : goal.invariant-loop-rest
invariant-loop-rest l = RowsSet (λ k. laid_term l.lines (line_of k) l.p ≡ laid_term l.lines (target_of k) l.q) l.row l.rest l.m

abbrev pub decreases-loop-rest : goal.decreases-loop-rest
decreases-loop-rest l = l.rest
