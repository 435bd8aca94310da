use mathlib.Core.Path.{◌≡◌}
use native.Mathlib.Omega.{arith}
use borrow.Author.Rules.{rules}
use lib.ListN.{length}
use Rattle.model.specs.Limits.{most_views}
use Rattle.load.proofs.GrantWords.{partly_more}
use Rattle.load.proofs.enter.granting.Goals as goal

pub loop-k-preserved : goal.loop-k-preserved
loop-k-preserved c =
    let at = c.loop-k in
    let long : length c.args.grants ≡ most_views = search rules in
    partly_more _ _ _ _ (omega (arith, long)) at.invariant (rw c.has_bit.ensures at c.set_bit_if.ensures)
