-- `without`: the bits of the first word at which the second is turned over.
use Rattle.words.proofs.ClearBits.{without_not}
use Rattle.words.proofs.without.Goals as goal

pub returns : goal.returns
returns c = without_not c.args.a c.args.b c.ranges.a.fits c.ranges.b.fits
