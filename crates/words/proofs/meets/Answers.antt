-- `meets`: the bits that both words have are none exactly where the words do not meet.
use Rattle.words.proofs.Tests.{and_meet}
use Rattle.words.proofs.meets.Goals as goal

pub returns : goal.returns
returns c = and_meet 64 c.args.a c.args.b c.ranges.a.fits
