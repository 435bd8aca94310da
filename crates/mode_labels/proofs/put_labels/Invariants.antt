-- `put_labels`: the labels passed are written.
use Rattle.std.proofs.Common.{◌*◌, ◌≤◌, take}
use Rattle.writing.specs.Wrote.{Wrote}
use Rattle.mode_labels.specs.LabelLines.{most_label, label_lines}
use Rattle.mode_labels.proofs.put_labels.Given as goal

abbrev pub invariant-loop-w : goal.invariant-loop-w
invariant-loop-w l = record {
  wrote : Wrote l.initial.out 0 (label_lines (take l.w-index l.labels)) l.out l.to;
  room : l.to ≤ l.w-index * most_label;
}
