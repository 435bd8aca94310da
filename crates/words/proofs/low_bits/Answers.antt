-- `low_bits`: a one shifted to place `n`, less one, is the `n` bits below it.
use lib.Pow.{pow_pos}
use Rattle.words.proofs.ClearBits.{one_shifted}
use Rattle.words.proofs.low_bits.Goals as goal

pub overflow_sub-result : goal.overflow_sub-result
overflow_sub-result c = rw (one_shifted 64 c.args.n c.requires) (pow_pos c.args.n)

pub returns : goal.returns
returns c = rw (one_shifted 64 c.args.n c.requires)
