-- `take_row`: the blocks of the constants in the columns before `p` are taken.
use Rattle.freezing.proofs.Taken.{ColumnsTaken}
use Rattle.freezing.proofs.blocks.take_row.Given as goal

abbrev pub invariant-loop-p : goal.invariant-loop-p
invariant-loop-p l = ColumnsTaken l.rows l.k l.p l.initial.taken l.taken
