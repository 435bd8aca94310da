-- `set_bit_if`: by the test, the word with the bit or the word.
use Rattle.words.proofs.set_bit_if.Goals as goal

pub returns-then-passes : goal.returns-then-passes
returns-then-passes c = rw c.if-passes.true c.set_bit.ensures

pub returns-else-passes : goal.returns-else-passes
returns-else-passes c = rw c.if-passes.false
