-- `clear_bit`: every bit is kept but bit `k`.
use Rattle.words.proofs.ClearBits.{clear_not}
use Rattle.words.proofs.clear_bit.Goals as goal

pub returns : goal.returns
returns c = clear_not c.args.m c.args.k c.requires c.ranges.m.fits
