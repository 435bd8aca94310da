-- `free_columns`: the columns before `p` that the word has are free.
use Rattle.covering.specs.Free.{FreeColumns}
use Rattle.covering.proofs.preparing.free_columns.Given as goal

abbrev pub invariant-loop-p : goal.invariant-loop-p
invariant-loop-p l = FreeColumns l.rows l.k l.m
