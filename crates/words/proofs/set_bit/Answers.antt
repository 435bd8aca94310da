-- `set_bit`: a one shifted to place `k`, put into the word, sets bit `k` and no other.
use Rattle.words.proofs.SetBits.{or_shifted_one}
use Rattle.words.proofs.set_bit.Goals as goal

pub returns : goal.returns
returns c = or_shifted_one 64 c.args.m c.args.k c.requires
