use mathlib.Core.Path.{◌≡◌, refl, ◌∙◌}
use Prim.Native.Nat.{◌-◌, ◌≤◌, ◌<◌}
use native.Mathlib.Omega.{arith}
use borrow.Author.Rules.{rules}
use lib.ListN.{length, get_or}
use Rattle.theory.proofs.Tuples.{get_d_mem}
use Rattle.model.specs.Limits.{most_views}
use Rattle.writing.proofs.Wrote.{wrote_none}
use Rattle.view_texts.specs.ViewTexts.{view_texts}
use Rattle.view_texts.proofs.Viewed.{view_value, view_narrow, wrote_view}
use Rattle.view_texts.proofs.put_views.Goals as goal
use Rattle.view_texts.proofs.put_views.Goals.{In-loop-n}

pub loop-n-init : goal.loop-n-init
unfolding view_texts
loop-n-init c = record { room = omega arith; size = refl; wrote = λ d l. wrote_none _ _ }

-- the number is one that a view can have
ranged : (c : In-loop-n) →
    let n = get_or c.args.numbers.now c.loop-n.n-index 0 in (1 ≤ n) × (n ≤ most_views)
ranged c = c.requires.1 _ (get_d_mem _ _ 0 c.loop-n-test.true)

pub overflow_sub-k : goal.overflow_sub-k
overflow_sub-k c = omega (arith, ranged (goal.at.overflow_sub-k c).In-loop-n)

pub offset_bounds-p-k : goal.offset_bounds-p-k
offset_bounds-p-k c = omega (arith, ranged (goal.at.offset_bounds-p-k c).In-loop-n)

pub bounds-p-k : goal.bounds-p-k
bounds-p-k c = omega (arith, ranged (goal.at.bounds-p-k c).In-loop-n)

pub loop-n-preserved : goal.loop-n-preserved
loop-n-preserved c =
    let inv = c.loop-n.invariant in
    let same : length c.put_view-to.new.out ≡ length c.loop-n.out = search rules in
    let k : get_or c.args.numbers.now c.loop-n.n-index 0 - 1 < most_views = omega (arith, ranged (goal.at.loop-n-preserved c).In-loop-n) in
    record {
      room = omega (arith, c.put_view-to.ensures.1);
      size = same ∙ inv.size;
      wrote = λ d l. wrote_view d.views _ _ _ (inv.wrote d l) (rw c.from.ensures at (c.put_view-to.ensures.0 _ (view_value l _ k) (view_narrow l _ k)))
          refl c.loop-n-test.true;
    }
