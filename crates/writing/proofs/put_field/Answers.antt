-- The digits, of which a word has 20 at most, and the byte behind them.
use mathlib.Core.Path.{◌≡◌}
use Prim.Native.Nat.{◌+◌, ◌≤◌, ◌<◌}
use native.Mathlib.Omega.{arith}
use lib.ListN.{length}
use Rattle.text.specs.Print.{decimal}
use Rattle.writing.specs.Wrote.{most_field_bytes}
use Rattle.writing.proofs.Wrote.{wrote_byte, wrote_more}
use Rattle.writing.proofs.Decimal.{length_word}
use Rattle.writing.proofs.put_field.Goals as goal
use Rattle.writing.proofs.put_field.Goals.{Start, After-put_number-to}

room : (c : Start) → c.args.at + length (decimal c.args.n) ≤ length c.args.out.now
room c =
    let p : c.args.at + most_field_bytes ≤ length c.args.out.now = c.requires in
    omega (arith, length_word c.args.n c.ranges.n.fits)

pub put_number-to-requires : goal.put_number-to-requires
put_number-to-requires c = room (goal.at.put_number-to-requires c).Start

behind : (c : After-put_number-to) → c.put_number-to.result < length c.put_number-to.new.out
behind c =
    let p : c.args.at + most_field_bytes ≤ length c.args.out.now = c.requires in
    let e : c.put_number-to.result ≡ c.args.at + length (decimal c.args.n) = c.put_number-to.ensures.next in
    let z = c.put_number-to.ensures.size in
    omega (arith, length_word c.args.n c.ranges.n.fits)

pub put_byte-requires : goal.put_byte-requires
put_byte-requires c = behind (goal.at.put_byte-requires c).After-put_number-to

pub returns : goal.returns
returns c =
    let w = wrote_byte (behind (goal.at.returns c).After-put_number-to) c.put_byte.ensures in
    let e : c.put_number-to.result ≡ c.args.at + length (decimal c.args.n) = c.put_number-to.ensures.next in
    let r = c.put_byte.ensures.1 in
    (wrote_more c.put_number-to.ensures w, omega (arith, length_word c.args.n c.ranges.n.fits))
