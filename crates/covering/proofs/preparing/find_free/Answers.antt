use native.Mathlib.Omega.{arith}
use Rattle.covering.proofs.Prepared.{free_next}
use Rattle.covering.proofs.preparing.find_free.Goals as goal

pub loop-k-preserved : goal.loop-k-preserved
loop-k-preserved c = free_next _ _ c.requires (omega arith) c.loop-k.invariant c.free_columns.ensures
