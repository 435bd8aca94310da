-- `put_views`: the views passed are written.
use Rattle.std.proofs.Common.{◌≡◌, ◌+◌, ◌*◌, ◌≤◌, length, take}
use Rattle.policy_text.specs.Declared.{Declared}
use Rattle.labelling.specs.Text.{LoadedTo}
use Rattle.writing.specs.Wrote.{Wrote}
use Rattle.view_texts.specs.ViewTexts.{most_view_text, view_texts}
use Rattle.view_texts.proofs.put_views.Given as goal

abbrev pub invariant-loop-n : goal.invariant-loop-n
invariant-loop-n l = record {
  room : l.to ≤ l.start + l.n-index * most_view_text;
  size : length l.out ≡ length l.initial.out;
  wrote : (d : Declared) → LoadedTo l.p d → Wrote l.initial.out l.start (view_texts d.views (take l.n-index l.numbers)) l.out l.to;
}
