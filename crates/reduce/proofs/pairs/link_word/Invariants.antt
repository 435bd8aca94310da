-- `link_word`: the word has the pairs that agree on the variables that were looked at.
use mathlib.Core.Path.{◌≡◌}
use Prim.Native.Nat.{ℕ}
use Rattle.words.specs.Bits.{bit}
use Rattle.reduce.specs.PairNumbers.{line_of, target_of}
use Rattle.reduce.specs.Links.{HasVariable, Linked}
use Rattle.reduce.proofs.Links.{TestsPassed}
use Rattle.reduce.proofs.pairs.link_word.Given as goal

abbrev pub invariant-loop-rest : goal.invariant-loop-rest
invariant-loop-rest l =
    ((n : ℕ) → bit l.shared n ≡ 1 → HasVariable l.lines l.a n × HasVariable l.lines l.b n)
    → TestsPassed (λ n k. Linked l.lines n l.a l.b (line_of k) (target_of k)) l.row l.shared l.rest l.w

abbrev pub decreases-loop-rest : goal.decreases-loop-rest
decreases-loop-rest l = l.rest
