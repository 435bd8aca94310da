-- `put_line`: the table, the terms and the end, one behind the other.
use mathlib.Core.Path.{◌≡◌}
use Prim.Native.Nat.{◌<◌, ◌≤◌, ◌^◌}
use native.Mathlib.Omega.{arith}
use borrow.Author.Rules.{rules}
use lib.ListN.{length}
use Rattle.text.specs.Print.{decimal}
use Rattle.writing.specs.Wrote.{most_word_digits}
use Rattle.writing.proofs.Wrote.{wrote_byte}
use Rattle.writing.proofs.Decimal.{length_word}
use Rattle.printing.proofs.Put.{line_put}
use Rattle.printing.proofs.put_line.Goals as goal
use Rattle.printing.proofs.put_line.Goals.{After-put_terms-b, Start}

table_fits : (c : Start) → c.args.line.table < 2 ^ 64
table_fits c = search rules

short : (c : Start) → length (decimal c.args.line.table) ≤ most_word_digits
short c = length_word c.args.line.table (table_fits c)

pub put_number-a-requires : goal.put_number-a-requires
put_number-a-requires c = omega (arith, short (goal.at.put_number-a-requires c).Start, c.requires)

pub put_terms-b-requires : goal.put_terms-b-requires
put_terms-b-requires c =
    let w = c.put_number-a.ensures in
    omega (arith, short (goal.at.put_terms-b-requires c).Start, c.requires, w.next, w.size)

behind : (c : After-put_terms-b) → c.put_terms-b.result < length c.put_terms-b.new.out
behind c =
    let w = c.put_number-a.ensures in
    let same : length c.put_terms-b.new.out ≡ length c.put_number-a.new.out = search rules in
    omega (arith, short (goal.at.After-put_terms-b c).Start, c.requires, w.next, w.size, same, c.put_terms-b.ensures.1)

pub put_byte-requires : goal.put_byte-requires
put_byte-requires c = behind (goal.at.put_byte-requires c).After-put_terms-b

pub returns : goal.returns
returns c =
    let byte = wrote_byte (behind (goal.at.returns c).After-put_terms-b) c.put_byte.ensures in
    let w = c.put_number-a.ensures in (
      line_put w c.put_terms-b.ensures.0 byte,
      omega (arith, short (goal.at.returns c).Start, w.next, c.put_terms-b.ensures.1, c.put_byte.ensures.1),
    )
