use mathlib.Core.Path.{ap, ◌∙◌}
use native.Mathlib.Omega.{arith}
use Rattle.freezing.specs.Rows.{frozen_term}
use Rattle.freezing.proofs.FrozenCells.{small_term, frozen_more, frozen_all}
use Rattle.freezing.proofs.rows.frozen_row.Goals as goal

pub frozen-requires : goal.frozen-requires
frozen-requires c =
    let some = c.requires.2 in
    (c.requires.0, rw c.term_at-t.ensures (small_term _ _ some.0 some.1 _ c.loop-p-test.true))

pub loop-p-preserved : goal.loop-p-preserved
loop-p-preserved c =
    frozen_more c.loop-p.invariant c.loop-p-test.true
    (c.frozen.ensures ∙ ap (frozen_term _) c.term_at-t.ensures)

pub returns : goal.returns
returns c = frozen_all c.loop-p.invariant (omega arith)
