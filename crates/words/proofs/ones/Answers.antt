-- `ones`: counting ones counts the bits below the width that are set.
use mathlib.Core.Path.{◌∙◌}
use Rattle.words.proofs.Counts.{count_ones}
use Rattle.words.proofs.ones.Goals as goal

pub returns : goal.returns
returns c = c.from.ensures ∙ count_ones 64 c.args.m c.ranges.m.fits
