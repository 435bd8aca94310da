-- `drop_least`: a word and the word one below it have in common all bits but the least.
use Rattle.words.proofs.Lowest.{and_pred_dropped}
use Rattle.words.proofs.drop_least.Goals as goal

pub returns : goal.returns
returns c = and_pred_dropped 64 c.args.m c.requires c.ranges.m.fits
