-- `put_apart`: the number of rows, the odd one, and the others.
use lib.Seq.{length-take-le}
use mathlib.Core.Path.{sym}
use native.Mathlib.Omega.{arith}
use lib.ListN.{length-drop}
use Rattle.text.specs.Names.{bytes}
use Rattle.text.proofs.Parts.{to_end}
use Rattle.freezing.specs.Cells.{row_cells}
use Rattle.mode_apart.proofs.Written.{rows_first, rows_rest, rows_some, wrote_apart}
use Rattle.mode_apart.proofs.rows.put_apart.Goals as goal
use Rattle.mode_apart.proofs.rows.put_apart.Goals.{After-put_bytes-a, After-put_field-b, After-put_row-c, Start}

-- ---- the places before

abbrev titled : After-put_field-b → After-put_bytes-a
titled c = (goal.at.After-put_field-b c).After-put_bytes-a

abbrev counted : After-put_row-c → After-put_field-b
counted c = (goal.at.After-put_row-c c).After-put_field-b

abbrev begun : After-put_field-b → Start
begun c = (goal.at.After-put_field-b c).Start

pub put_row-c-requires : goal.put_row-c-requires
put_row-c-requires c =
    let b = titled (goal.at.put_row-c-requires c).After-put_field-b in
    let s = begun (goal.at.put_row-c-requires c).After-put_field-b in (
      omega arith,
      omega (arith, s.requires.0, b.put_bytes-a.ensures.next, b.put_bytes-a.ensures.size, c.put_field-b.ensures.0.size, c.put_field-b.ensures.1),
      (_, rows_first s.requires.2.2),
    )

pub slice_bounds-put_row-end-2 : goal.slice_bounds-put_row-end-2
slice_bounds-put_row-end-2 c = sym (length-take-le row_cells c.args.cells.now (rows_some c.requires.2.2))

pub slice_bounds-put_rows-count : goal.slice_bounds-put_rows-count
slice_bounds-put_rows-count c = rows_some (begun (counted (goal.at.slice_bounds-put_rows-count c).After-put_row-c)).requires.2.2

pub slice_bounds-put_rows-start : goal.slice_bounds-put_rows-start
slice_bounds-put_rows-start c = omega (arith, rows_some (begun (counted (goal.at.slice_bounds-put_rows-start c).After-put_row-c)).requires.2.2)

pub put_rows-requires : goal.put_rows-requires
put_rows-requires c =
    let f = counted (goal.at.put_rows-requires c).After-put_row-c in
    let b = titled f in
    let s = begun f in
    let cells = s.args.cells.now in (
      rw (to_end row_cells cells)
          (omega (
            arith,
            s.requires.0,
            s.requires.1,
            length-drop row_cells cells,
            b.put_bytes-a.ensures.next,
            b.put_bytes-a.ensures.size,
            f.put_field-b.ensures.0.size,
            f.put_field-b.ensures.1,
            c.put_row-c.ensures.upper_bound,
          )),
      (_, rows_rest s.requires.2.2),
    )

pub returns : goal.returns
unfolding bytes
returns c =
    λ odd others h.
    let f = counted (goal.at.returns c).After-put_row-c in
    wrote_apart odd others h (titled f).put_bytes-a.ensures f.put_field-b.ensures.0 (c.put_row-c.ensures.row_put odd (rows_first h))
    (c.put_rows.ensures others (rows_rest h))
