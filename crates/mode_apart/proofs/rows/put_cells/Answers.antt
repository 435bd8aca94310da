use Rattle.std.proofs.Common.{refl, arith}
use Rattle.writing.proofs.Wrote.{wrote_none}
use Rattle.page.specs.Numbers.{spaced_numbers}
use Rattle.page.proofs.Listed.{wrote_number}
use Rattle.mode_apart.proofs.rows.put_cells.Goals as goal

pub loop-n-init : goal.loop-n-init
unfolding spaced_numbers
loop-n-init c = record { wrote = wrote_none _ _; room = omega arith }

pub loop-n-preserved : goal.loop-n-preserved
loop-n-preserved c =
    record {
      wrote = wrote_number _ _ c.loop-n.invariant.wrote c.put_spaced-to.ensures.0 refl c.loop-n-test.true;
      room = omega (arith, c.put_spaced-to.ensures.1);
    }
