-- `join`: a half below 2 ^ 32 and the other shifted above it have no bit in common.
use borrow.Author.Rules.{rules}
use Rattle.words.specs.Bits.{half_bits}
use Rattle.words.proofs.Parts.{or_parts}
use Rattle.words.proofs.join.Goals as goal

pub returns : goal.returns
returns c = or_parts half_bits half_bits 64 c.requires.0 c.requires.1 (search rules)
