-- `put_number`: one digit, or what `put_decimal` writes.
use native.Mathlib.Omega.{arith}
use Prim.Native.Nat.{◌<◌}
use lib.ListN.{length}
use Rattle.text.proofs.Decimals.{length_one}
use Rattle.writing.proofs.Wrote.{wrote_byte}
use Rattle.writing.proofs.Decimal.{wrote_digit}
use Rattle.writing.proofs.put_number.Goals as goal

pub put_byte-requires : goal.put_byte-requires
put_byte-requires c = omega (arith, c.requires, length_one c.args.n c.if-n-lt10.true)

pub returns-then-n-lt10 : goal.returns-then-n-lt10
returns-then-n-lt10 c =
    let h : c.args.at < length c.args.out.now = omega (arith, c.requires, length_one c.args.n c.if-n-lt10.true) in
    wrote_digit c.if-n-lt10.true (wrote_byte h c.put_byte.ensures)
