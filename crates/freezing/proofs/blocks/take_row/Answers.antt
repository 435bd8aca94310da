use mathlib.Core.Path.{◌∙◌}
use native.Mathlib.Omega.{arith}
use Rattle.freezing.proofs.Taken.{takes_as, columns_more, column_taken, column_left}
use Rattle.freezing.proofs.blocks.take_row.Goals as goal
use Rattle.freezing.proofs.blocks.take_row.Goals.{else-t-eq-CONSTANT-via-then-t-eq-CONSTANT+else-block, else-t-eq-CONSTANT-via-else-t-eq-CONSTANT, else-t-eq-CONSTANT, then-t-eq-CONSTANT+then-block}

pub loop-p-preserved : goal.loop-p-preserved
loop-p-preserved c =
    let long = c.requires.1 in
    let at = c.loop-p in
    let t = c.term_at-t in
    columns_more at.invariant
    (elim c.if-t-eq-CONSTANT.branch [
      | then-t-eq-CONSTANT+then-block x ↦ rw x.taken-is (column_taken _ t.ensures (at.invariant.long ∙ long) x.if-block.true)
      | else-t-eq-CONSTANT x ↦ rw x.taken-is
          (column_left _ t.ensures (λ mark.
          elim x.else-t-eq-CONSTANT.branch [
            | else-t-eq-CONSTANT-via-then-t-eq-CONSTANT+else-block y ↦ y.if-block.false
            | else-t-eq-CONSTANT-via-else-t-eq-CONSTANT y ↦ absurd (y.if-t-eq-CONSTANT.false mark)
          ]))
    ])

pub returns : goal.returns
returns c = takes_as c.loop-p.invariant (λ i q h e. (e, omega (arith, h, c.loop-p-test.false))) (omega arith)
