-- `granted_views`: the word has the views before `k` that the partition grants.
use mathlib.Core.Path.{◌≡◌}
use Rattle.words.specs.TestBits.{test_bits, up_from}
use Rattle.policy_text.specs.Abstract.{granted_at}
use Rattle.explanations.proofs.granted_views.Given as goal

abbrev pub invariant-loop-k : goal.invariant-loop-k
invariant-loop-k l = l.word ≡ test_bits (granted_at l.fn.grants l.i) (up_from 0 l.k)
