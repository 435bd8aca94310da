-- One digit, or those of a tenth of the number and then the last.
use Prim.Native.Nat.{◌+◌, ◌/◌, ◌≤◌, ◌<◌}
use mathlib.Core.Path.{◌≡◌}
use native.Mathlib.Omega.{arith}
use lib.ListN.{length}
use Rattle.text.specs.Print.{decimal}
use Rattle.text.proofs.Decimals.{length_one, length_more}
use Rattle.writing.proofs.Wrote.{wrote_byte}
use Rattle.writing.proofs.Decimal.{wrote_digit, wrote_digits}
use Rattle.writing.proofs.+put_decimal.Goals as goal

pub put_byte-requires : goal.put_byte-requires
put_byte-requires t c = omega (arith, c.requires, length_one c.args.n c.if-n-lt10.true)

pub returns-then-n-lt10 : goal.returns-then-n-lt10
returns-then-n-lt10 t c =
    let h : c.args.at < length c.args.out.now = omega (arith, c.requires, length_one c.args.n c.if-n-lt10.true) in
    wrote_digit c.if-n-lt10.true (wrote_byte h c.put_byte.ensures)

pub put_decimal-to-requires : goal.put_decimal-to-requires
put_decimal-to-requires t c =
    let p : c.args.at + length (decimal c.args.n) ≤ length c.args.out.now = c.requires in
    let h : c.args.at + length (decimal (c.args.n / 10)) ≤ length c.args.out.now
    = omega (arith, length_more c.args.n c.if-n-lt10.false) in
    (omega arith, h)

pub put_byte-requires-2 : goal.put_byte-requires-2
put_byte-requires-2 t c =
    let p : c.args.at + length (decimal c.args.n) ≤ length c.args.out.now = c.requires in
    let e : c.put_decimal-to.result ≡ c.args.at + length (decimal (c.args.n / 10)) = c.put_decimal-to.ensures.next in
    let z = c.put_decimal-to.ensures.size in
    omega (arith, length_more c.args.n c.if-n-lt10.false)

pub returns : goal.returns
returns t c =
    let p : c.args.at + length (decimal c.args.n) ≤ length c.args.out.now = c.requires in
    let e : c.put_decimal-to.result ≡ c.args.at + length (decimal (c.args.n / 10)) = c.put_decimal-to.ensures.next in
    let z = c.put_decimal-to.ensures.size in
    let h : c.put_decimal-to.result < length c.put_decimal-to.new.out = omega (arith, length_more c.args.n c.if-n-lt10.false) in
    wrote_digits c.if-n-lt10.false c.put_decimal-to.ensures (wrote_byte h c.put_byte-2.ensures)
