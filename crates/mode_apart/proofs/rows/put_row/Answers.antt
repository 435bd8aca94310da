-- `put_row`: what is said, the numbers that are the row's own, and the end.
use mathlib.Core.Path.{◌≡◌, sym}
use Prim.Native.Nat.{◌+◌, ◌≤◌}
use native.Mathlib.Omega.{arith}
use borrow.Author.Rules.{rules}
use lib.ListN.{length, take}
use lib.Seq.{length-take-le}
use Rattle.model.specs.Limits.{most_columns}
use Rattle.writing.proofs.Wrote.{wrote_byte}
use Rattle.mode_apart.proofs.Written.{row_narrow, row_long, row_known, row_width, wrote_row}
use Rattle.mode_apart.proofs.rows.put_row.Goals as goal
use Rattle.mode_apart.proofs.rows.put_row.Goals.{After-width_of-width}

pub bounds-row-0 : goal.bounds-row-0
bounds-row-0 c =
    omega (arith, row_long c.requires.2.1)

pub width_of-width-requires : goal.width_of-width-requires
width_of-width-requires c =
    row_known c.requires.2.1

-- how many numbers are the row's own, and that it has them
own : (c : After-width_of-width) →
    let w = c.width_of-width.result in
    (w ≤ most_columns) × (length (take (w + 1) c.args.row.now) ≡ w + 1)
own c =
    let h = c.requires.2.1 in
    let few : c.width_of-width.result ≤ most_columns = omega (arith, row_width h _ c.width_of-width.ensures, row_narrow h) in
    (few, length-take-le _ _ (omega (arith, few, row_long h)))

pub overflow_add-width : goal.overflow_add-width
overflow_add-width c = let o = own (goal.at.overflow_add-width c).After-width_of-width in omega (arith, o.0)

pub slice_bounds-put_cells-end : goal.slice_bounds-put_cells-end
slice_bounds-put_cells-end c =
    sym (own (goal.at.slice_bounds-put_cells-end c).After-width_of-width).1

pub put_cells-b-requires : goal.put_cells-b-requires
put_cells-b-requires c =
    let o = own (goal.at.put_cells-b-requires c).After-width_of-width in
    omega (arith, c.requires.0, c.requires.1, o, c.put_bytes-a.ensures.next, c.put_bytes-a.ensures.size)

pub put_byte-requires : goal.put_byte-requires
put_byte-requires c =
    let o = own (goal.at.put_byte-requires c).After-width_of-width in
    omega (
      arith,
      c.requires.0,
      c.requires.1,
      o,
      c.put_bytes-a.ensures.next,
      c.put_bytes-a.ensures.size,
      c.put_cells-b.ensures.wrote.size,
      c.put_cells-b.ensures.upper_bound,
    )

pub returns : goal.returns
returns c =
    let o = own (goal.at.returns c).After-width_of-width in
    let end = wrote_byte (search rules) c.put_byte.ensures in
    record {
      row_put = λ x h. wrote_row h _ _ (row_width h _ c.width_of-width.ensures) c.put_bytes-a.ensures c.put_cells-b.ensures.wrote end;
      upper_bound = (omega (arith, c.requires.0, o, c.put_bytes-a.ensures.next, c.put_cells-b.ensures.upper_bound, c.put_byte.ensures.1), search rules);
    }
