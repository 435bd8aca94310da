-- `least`: the zeros behind the least set bit are as many as its place.
use Rattle.words.proofs.Lowest.{trailing_least}
use Rattle.words.proofs.least.Goals as goal

pub returns : goal.returns
returns c = rw c.from.ensures (trailing_least 64 c.args.m c.requires c.ranges.m.fits)
