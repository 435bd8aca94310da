use mathlib.Core.Path.{◌≡◌, refl, ap, ◌∙◌}
use Prim.Native.Nat.{ℕ}
use native.Mathlib.Omega.{arith}
use Rattle.words.specs.TestBits.{test_bits, up_from}
use Rattle.words.proofs.TestBits.{next_test}
use Rattle.model.specs.Limits.{most_views}
use Rattle.policy_text.specs.Abstract.{granted_at}
use Rattle.explanations.proofs.granted_views.Goals as goal

pub loop-k-init : goal.loop-k-init
unfolding test_bits up_from
loop-k-init c = refl

pub loop-k-preserved : goal.loop-k-preserved
unfolding granted_at
loop-k-preserved c = next_test _ _ c.has_bit-on.ensures c.loop-k.invariant c.set_bit_if-word.ensures

pub returns : goal.returns
returns c =
    let all : c.loop-k.k ≡ most_views = omega arith in
    let a = c.args in
    c.loop-k.invariant ∙ ap (λ (n : ℕ). test_bits (granted_at a.grants a.i) (up_from 0 n)) all
