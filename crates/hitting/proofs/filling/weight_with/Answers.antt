-- `weight_with`: the table is read at what the view leaves.
use mathlib.Core.Path.{ap}
use Prim.Native.Nat.{ℕ, ◌+◌}
use native.Mathlib.Omega.{arith}
use lib.ListN.{get_or}
use Rattle.words.proofs.ClearBits.{without_xor}
use Rattle.words.proofs.WithoutBits.{without_once}
use Rattle.model.specs.Limits.{most_lines}
use Rattle.hitting.specs.Table.{view_weight}
use Rattle.hitting.proofs.LeastWeight.{at_view}
use Rattle.hitting.proofs.filling.weight_with.Goals as goal

pub offset_bounds-table-rest : goal.offset_bounds-table-rest
offset_bounds-table-rest c = omega (arith, c.without-rest.ensures.below most_lines c.requires.few)

-- what is left of a set of at most eight labels
pub bounds-table-rest : goal.bounds-table-rest
bounds-table-rest c = c.without-rest.ensures.below most_lines c.requires.few

pub returns : goal.returns
returns c =
    let a = c.args in
    let rest = without_once c.without-rest.ensures (without_xor a.m (get_or a.hits.now a.v 0)) in
    rw (at_view a.hits.now a.v, at_view a.costs.now a.v)
    (ap (λ (x : ℕ). view_weight + get_or a.costs.now a.v 0 + get_or a.table.now x 0) rest)
