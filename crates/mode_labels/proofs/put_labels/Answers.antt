use Rattle.std.proofs.Common.{arith}
use Rattle.writing.proofs.Wrote.{wrote_none}
use Rattle.mode_labels.specs.LabelLines.{label_lines}
use Rattle.mode_labels.proofs.LinePieces.{wrote_next_label}
use Rattle.mode_labels.proofs.put_labels.Goals as goal

pub loop-w-init : goal.loop-w-init
unfolding label_lines
loop-w-init c = record { wrote = wrote_none _ _; room = omega arith }

pub loop-w-preserved : goal.loop-w-preserved
loop-w-preserved c =
    record {
      wrote = wrote_next_label _ _ c.loop-w.invariant.wrote c.put_label-to.ensures.0 c.loop-w-test.true;
      room = omega (arith, c.put_label-to.ensures.1);
    }
