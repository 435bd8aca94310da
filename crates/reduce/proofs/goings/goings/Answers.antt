use mathlib.Core.Path.{◌≡◌}
use Prim.Native.Nat.{◌+◌, ◌*◌}
use native.Mathlib.Omega.{arith}
use Rattle.words.proofs.Parts.{parts_below, or_parts}
use Rattle.model.specs.Limits.{most_lines}
use Rattle.reduce.proofs.GoingPairs.{pairs_more, pairs_all}
use Rattle.reduce.proofs.goings.goings.Goals as goal

pub loop-a-preserved : goal.loop-a-preserved
loop-a-preserved c =
    let at = c.loop-a in
    let small = c.goings_of.ensures.upper_bound in
    let targets = c.goings_of.ensures.target_word in
    let joined = or_parts (at.a * most_lines) most_lines 64 at.invariant.0 small (omega arith) in
    let next : (at.a + 1) * most_lines ≡ at.a * most_lines + most_lines = omega arith in (
      rw (joined, next) (parts_below (at.a * most_lines) c.goings_of.result at.invariant.0 most_lines small),
      λ Q g. rw joined (pairs_more at.a at.invariant.0 small (omega (arith, g.count)) (targets Q g) (at.invariant.1 Q g)),
    )

pub returns : goal.returns
returns c = λ Q g. pairs_all g.count c.loop-a-test.false (c.loop-a.invariant.1 Q g)
