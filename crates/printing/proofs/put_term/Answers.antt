-- `put_term`: the space, the mark's byte and the digits, one behind the other.
use mathlib.Core.List.{[], ◌∷◌}
use Prim.Native.Nat.{◌<◌, ◌≤◌, ◌^◌}
use native.Mathlib.Omega.{arith}
use borrow.Author.Rules.{rules}
use lib.ListN.{length}
use Rattle.text.specs.Lines.{space}
use Rattle.text.specs.Print.{decimal}
use Rattle.writing.specs.Wrote.{most_word_digits, Wrote}
use Rattle.writing.proofs.Wrote.{wrote_byte}
use Rattle.writing.proofs.Decimal.{length_word}
use Rattle.printing.proofs.Put.{term_put}
use Rattle.printing.proofs.put_term.Goals as goal
use Rattle.printing.proofs.put_term.Goals.{After-put_byte-a, After-put_byte-b, Start}

number_fits : (c : Start) → c.args.t.number < 2 ^ 64
number_fits c = search rules

short : (c : Start) → length (decimal c.args.t.number) ≤ most_word_digits
short c = length_word c.args.t.number (number_fits c)

space_put : (c : After-put_byte-a) → Wrote c.args.out.now c.args.at (space ∷ []) c.put_byte-a.new.out c.put_byte-a.result
space_put c =
    let h : c.args.at < length c.args.out.now = omega (arith, c.requires) in
    wrote_byte h c.put_byte-a.ensures

mark_put : (c : After-put_byte-b)
    → Wrote c.put_byte-a.new.out c.put_byte-a.result (c.mark_byte.result ∷ []) c.put_byte-b.new.out c.put_byte-b.result
mark_put c =
    let v = space_put (goal.at.After-put_byte-b c).After-put_byte-a in
    let h : c.put_byte-a.result < length c.put_byte-a.new.out = omega (arith, c.requires, v.next, v.size) in
    wrote_byte h c.put_byte-b.ensures

pub put_number-requires : goal.put_number-requires
put_number-requires c =
    let v = space_put (goal.at.put_number-requires c).After-put_byte-a in
    let w = mark_put (goal.at.put_number-requires c).After-put_byte-b in
    omega (arith, c.requires, short (goal.at.put_number-requires c).Start, v.next, v.size, w.next, w.size)

pub returns : goal.returns
returns c =
    let v = space_put (goal.at.returns c).After-put_byte-a in
    let w = mark_put (goal.at.returns c).After-put_byte-b in (
      term_put v c.mark_byte.ensures w c.put_number.ensures,
      omega (arith, short (goal.at.returns c).Start, v.next, w.next, c.put_number.ensures.next),
    )
