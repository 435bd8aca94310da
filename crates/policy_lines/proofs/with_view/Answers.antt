-- `with_view`: the views still ascend where the new one is past the last.
use mathlib.Core.Bool.{◌&&◌, and-true, and-false}
use mathlib.Core.Path.{◌≡◌, ◌∙◌}
use borrow.Author.Tests.{lt-ltb, le-ltb}
use lib.Dec.{ltb}
use Rattle.policy_lines.proofs.Views.{listed_more}
use Rattle.policy_lines.proofs.with_view.Goals as goal
use Rattle.policy_lines.proofs.with_view.Goals.{Joined-v-l, else-v-l, then-v-l}

ascending : (c : Joined-v-l) →
    let l = c.args.l in
    c.if-v-l.ascending ≡ (l.ascending && ltb l.last c.args.v)
ascending c =
    elim c.if-v-l.branch [ then-v-l w ↦ w.ascending-is ∙ rw (le-ltb _ _ w.if-v-l.true, and-false) | else-v-l w ↦ w.ascending-is ∙ rw (lt-ltb _ _ w.if-v-l.false, and-true) ]

pub returns : goal.returns
returns c =
    listed_more _ _ _ _ c.requires.0 c.requires.1 (ascending (goal.at.returns c).Joined-v-l) c.set_bit.ensures
