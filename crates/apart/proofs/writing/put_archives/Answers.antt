-- `put_archives`: the odd row, the other lines and the marked rows, one behind the other, tell the query apart.
use Rattle.apart.proofs.BothArchives.{odd_row, odd_held, first_wide, room, marking, rows_tell}
use Rattle.apart.proofs.TableViews.{partition_low}
use Rattle.apart.proofs.Told.{held}
use Rattle.apart.proofs.writing.put_archives.Goals as goal

pub frozen_row-odd-requires : goal.frozen_row-odd-requires
frozen_row-odd-requires c =
    let ((d, t, ns, Q, o), long, wide) = c.requires in
    (c.spare_block-base.ensures.low, odd_row o long, (_, odd_held o))

pub put_lines-from-requires : goal.put_lines-from-requires
put_lines-from-requires c =
    let ((d, t, ns, Q, o), long, wide) = c.requires in
    let s = c.spare_block-base.ensures in
    (s.low, (_, held o), long, first_wide o s c.frozen_row-odd.ensures _ wide c.put_row.ensures)

pub put_marked-requires : goal.put_marked-requires
put_marked-requires c =
    let ((d, t, ns, Q, o), long, wide) = c.requires in
    let s = c.spare_block-base.ensures in
    let f = c.frozen_row-odd.ensures in
    record {
      base_le_last_base = (s.low, marking o s f, partition_low o.ready _ ns o.partition);
      from_le_most_lines = room o s f _ wide _ _ c.put_row.ensures c.clear_bit-others.ensures c.put_lines-from.ensures;
    }

pub returns : goal.returns
returns c = λ d t ns Q o.
    let wide = c.requires.2 in
    rows_tell o c.spare_block-base.ensures c.frozen_row-odd.ensures _ wide _ _ c.put_row.ensures
    c.clear_bit-others.ensures c.put_lines-from.ensures c.put_marked.ensures
