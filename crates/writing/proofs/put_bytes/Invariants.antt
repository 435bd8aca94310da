-- `put_bytes`, by its loop's invariant: the bytes that are passed are written.
use lib.ListN.{take}
use Rattle.writing.specs.Wrote.{Wrote}
use Rattle.writing.proofs.put_bytes.Given as goal

abbrev pub invariant-loop-b : goal.invariant-loop-b
invariant-loop-b l = Wrote l.initial.out l.at (take l.b-index l.bytes) l.out l.to
