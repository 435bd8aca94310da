-- `take_rows`: the blocks of the constants in the rows before `k` are taken.
use Rattle.freezing.specs.Blocks.{RowsTaken}
use Rattle.freezing.proofs.blocks.take_rows.Given as goal

abbrev pub invariant-loop-k : goal.invariant-loop-k
invariant-loop-k l = RowsTaken l.rows l.k l.initial.taken l.taken
