use Rattle.std.proofs.Common.{refl, sym, ◌∙◌, arith, rules}
use Rattle.policy_text.specs.Abstract.{views_in}
use Rattle.page.proofs.Listed.{view_more, view_not, views_all}
use Rattle.page.proofs.views.views_of.Goals as goal
use Rattle.page.proofs.views.views_of.Goals.{else-has_bit, then-has_bit}

pub loop-k-init : goal.loop-k-init
unfolding views_in
loop-k-init c = record { few = omega arith; within = omega arith; long = search rules; are = refl }

pub loop-k-preserved : goal.loop-k-preserved
loop-k-preserved c =
    let f = c.loop-k.invariant in
    let e = c.has_bit.ensures in
    elim c.if-has_bit.branch [ then-has_bit w ↦ rw (w.numbers-is, w.count-is) (view_more f c.loop-k-test.true (sym e ∙ w.if-has_bit.true)) | else-has_bit w ↦ rw (w.numbers-is, w.count-is) (view_not f c.loop-k-test.true (sym e ∙ w.if-has_bit.false)) ]

pub returns : goal.returns
returns c =
    let f = c.loop-k.invariant in
    record { few = omega (arith, f.few, f.within); are = views_all f c.loop-k-test.false }
