use mathlib.Core.Path.{sym, ◌∙◌}
use Prim.Native.Nat.{◌<◌}
use native.Mathlib.Omega.{arith}
use lib.ListN.{length}
use Rattle.model.specs.Limits.{most_lines}
use Rattle.apart.proofs.FrozenLines.{lines_none, lines_same, lines_more, lines_all}
use Rattle.apart.proofs.writing.put_lines.Goals as goal
use Rattle.apart.proofs.writing.put_lines.Goals.{In-loop-k, else-has_bit, then-has_bit}

pub loop-k-init : goal.loop-k-init
loop-k-init c = (omega arith, λ S has start odd h. lines_none h)

-- the query that was given has at most eight lines
room : (c : In-loop-k) → c.loop-k.k < most_lines
room c = let (S, has) = c.requires.1 in omega (arith, c.loop-k-test.true, has.few)

pub frozen_row-cells-requires : goal.frozen_row-cells-requires
frozen_row-cells-requires c =
    let (base, (S, has), long, wide) = c.requires in
    let k = c.loop-k.k in
    (base, omega (arith, room (goal.at.frozen_row-cells-requires c).In-loop-k, long), (_, has.line k c.loop-k-test.true))

pub loop-k-preserved : goal.loop-k-preserved
loop-k-preserved c =
    let at = c.loop-k in
    let (few, lines) = at.invariant in (
      elim c.if-has_bit.branch [ then-has_bit x ↦ rw x.count-is (omega arith) | else-has_bit x ↦ rw x.count-is (omega arith) ],
      λ S has start odd h.
          let below : at.k < length S = rw has.count c.loop-k-test.true in
          let before = lines S has start odd h in
          elim c.if-has_bit.branch [
            | then-has_bit x ↦ rw (x.out-is, x.count-is)
                (lines_more before _ below (sym c.has_bit.ensures ∙ x.if-has_bit.true) (has.line at.k c.loop-k-test.true)
                (x.frozen_row-cells.ensures _ (has.line at.k c.loop-k-test.true)) x.put_row.ensures)
            | else-has_bit x ↦ rw (x.out-is, x.count-is) (lines_same before below (sym c.has_bit.ensures ∙ x.if-has_bit.false))
          ],
    )

pub returns : goal.returns
returns c = λ S has start odd h.
    lines_all (omega (arith, has.count, c.loop-k-test.false)) (c.loop-k.invariant.1 S has start odd h)
