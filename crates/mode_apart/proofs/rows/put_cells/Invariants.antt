-- `put_cells`: the numbers passed are written.
use Rattle.std.proofs.Common.{◌+◌, ◌*◌, ◌≤◌, take}
use Rattle.writing.specs.Wrote.{most_field_bytes, Wrote}
use Rattle.page.specs.Numbers.{spaced_numbers}
use Rattle.mode_apart.proofs.rows.put_cells.Given as goal

abbrev pub invariant-loop-n : goal.invariant-loop-n
invariant-loop-n l = record {
  wrote : Wrote l.initial.out l.start (spaced_numbers (take l.n-index l.cells)) l.out l.to;
  room : l.to ≤ l.start + l.n-index * most_field_bytes;
}
