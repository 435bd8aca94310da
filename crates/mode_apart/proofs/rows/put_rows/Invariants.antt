-- `put_rows`: the rows passed are written, and those to come have room.
use Rattle.std.proofs.Common.{◌≡◌, ◌+◌, ◌*◌, ◌≤◌, List, length}
use Rattle.std.specs.Slice.Iter.{chunks_exact_rest, chunks_exact_size}
use Rattle.theory.specs.Archive.{Row}
use Rattle.freezing.specs.Cells.{row_cells}
use Rattle.mode_apart.specs.Rows.{most_cell_bytes, AreRows}
use Rattle.mode_apart.proofs.Written.{Reached}
use Rattle.mode_apart.proofs.rows.put_rows.Given as goal

abbrev pub invariant-loop-row : goal.invariant-loop-row
invariant-loop-row l =
    (goal.iterator-loop-row).can_next l.row-iterator × (goal.iterator-loop-row).is_finite l.row-iterator
    × (chunks_exact_size l.row-iterator ≡ row_cells)
    × (l.to + length (chunks_exact_rest l.row-iterator) * most_cell_bytes ≤ length l.out) × (length l.out ≡ length l.initial.out)
    × ((xs : List Row) → AreRows l.tables l.cells xs
    → Reached l.tables (chunks_exact_rest l.row-iterator) xs l.initial.out l.start l.out l.to)
