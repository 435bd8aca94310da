-- `put_line`: the pieces of the line, one behind the other, within its room.
use borrow.Author.Rules.{rules}
use Rattle.writing.proofs.Wrote.{wrote_byte}
use Rattle.run.proofs.Line.{wrote_line}
use Rattle.run.proofs.put_line.Goals as goal

pub returns : goal.returns
returns c =
    let space = wrote_byte (search rules) c.put_byte-c.ensures in
    record {
      line_written = wrote_line _ _ _ _ c.put_field-a.ensures.0 c.put_bytes-b.ensures space
          c.put_field-d.ensures.0 c.put_field-e.ensures.0 c.put_field.ensures.0;
      out_len_unchanged = (search rules, search rules);
    }
