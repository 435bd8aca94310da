use mathlib.Core.Path.{refl, sym, ap, ◌∙◌}
use Prim.Native.Nat.{ℕ, ◌≤◌, ◌<◌}
use native.Mathlib.Nat.{le_refl}
use native.Mathlib.Omega.{arith}
use lib.ListN.{get_or}
use Rattle.words.specs.Bits.{is_set}
use Rattle.model.specs.Limits.{most_tables, most_views}
use Rattle.apart.proofs.TableViews.{fits_table}
use Rattle.apart.proofs.MarkedViews.{room_all, view_place, room_next}
use Rattle.apart.proofs.MarkedViews.{cells_table, so_far_none, so_far_same, so_far_more, so_far_all}
use Rattle.apart.proofs.marking.put_marked.Goals as goal
use Rattle.apart.proofs.marking.put_marked.Goals.{After-least-k, Start, then-has_bit, else-has_bit}

-- the first cell is one of the tables
table : (c : Start) → get_or c.args.odd 0 0 ≤ most_tables
table c = let (d, t, odd, ready, fits, are) = c.requires.base_le_last_base.1 in rw (cells_table odd are) (fits_table ready.good fits)

pub views_of-left-requires : goal.views_of-left-requires
views_of-left-requires c = let (d, t, odd, ready, fits, are) = c.requires.base_le_last_base.1 in (ready.long, table (goal.at.views_of-left-requires c).Start)

pub loop-left-init : goal.loop-left-init
loop-left-init c =
    let (d, t, odd, ready, fits, are) = c.requires.base_le_last_base.1 in
    let word = c.views_of-left.ensures in
    (room_all _ _ (rw word (ready.below _ (table (goal.at.loop-left-init c).Start))), refl, so_far_none _ _ _ _ _ _ _ word)

pub least-k-requires : goal.least-k-requires
least-k-requires c = omega arith

-- the place found is that of a view
small : (c : After-least-k) → c.least-k.result < most_views
small c = view_place c.loop-left.invariant.0 c.least-k.ensures

pub granting-requires : goal.granting-requires
granting-requires c =
    let (d, t, odd, ready, fits, are) = c.requires.base_le_last_base.1 in (ready.long, small c)

pub has_bit-requires : goal.has_bit-requires
has_bit-requires c = omega (arith, c.requires.base_le_last_base.2)

pub put_view-count-requires : goal.put_view-count-requires
put_view-count-requires c =
    let (base, (d, t, odd, ready, fits, are), _) = c.requires.base_le_last_base in
    let (few, wide) = c.requires.from_le_most_lines in
    let (room, long, _) = c.loop-left.invariant in
    let k : c.least-k.result < most_views = small (goal.at.put_view-count-requires c).After-least-k in
    record {
      base_le_last_base = (base, ready.long, k);
      from_le_count = (room.least, omega (arith, room.each _ c.least-k.ensures.set, few, wide.room, long));
    }

pub drop_least-left-requires : goal.drop_least-left-requires
drop_least-left-requires c = omega arith

pub loop-left-smaller : goal.loop-left-smaller
loop-left-smaller c = c.drop_least-left.ensures.less

pub loop-left-preserved : goal.loop-left-preserved
loop-left-preserved c =
    let (room, long, so_far) = c.loop-left.invariant in
    let l = c.least-k.ensures in
    let d = c.drop_least-left.ensures in
    let i = c.args.i in
    let k : c.least-k.result < most_views = small (goal.at.loop-left-preserved c).After-least-k in
    let granted = sym (c.has_bit.ensures ∙ ap (λ (w : ℕ). is_set w i) c.granting.ensures) in (
      elim c.if-has_bit.branch [
        | then-has_bit x ↦ rw x.count-is (room_next room l d x.put_view-count.ensures.least x.put_view-count.ensures.most)
        | else-has_bit x ↦ rw x.count-is (room_next room l d (le_refl _) (omega arith))
      ],
      omega arith,
      elim c.if-has_bit.branch [
        | then-has_bit x ↦ rw (x.out-is, x.count-is) (so_far_more _ _ _ _ _ _ l d k so_far (granted ∙ x.if-has_bit.true) x.put_view-count.ensures)
        | else-has_bit x ↦ rw (x.out-is, x.count-is) (so_far_same _ _ _ _ _ _ l d k so_far (granted ∙ x.if-has_bit.false))
      ],
    )

pub shape_of-out : goal.shape_of-out
shape_of-out c = c.loop-left.invariant.1

pub returns : goal.returns
returns c =
    let (room, _, so_far) = c.loop-left.invariant in
    so_far_all _ _ _ _ _ _ room.most (rw c.loop-left-test.false at so_far)
