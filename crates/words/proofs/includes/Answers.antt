-- `includes`: the bits that both words have are those of `b` exactly where `a` has them all.
use Rattle.words.proofs.Tests.{and_include}
use Rattle.words.proofs.includes.Goals as goal

pub returns : goal.returns
returns c = and_include 64 c.args.a c.args.b c.ranges.b.fits
