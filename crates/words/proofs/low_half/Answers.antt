-- `low_half`: the mask leaves what is left behind a division by 2 ^ 32.
use lib.Bits.{and_mask}
use Rattle.words.specs.Bits.{half_bits}
use Rattle.words.proofs.low_half.Goals as goal

pub returns : goal.returns
returns c = and_mask c.args.w half_bits
