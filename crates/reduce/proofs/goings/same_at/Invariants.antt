-- `same_at`: the columns of the word that were looked at have the same terms.
use mathlib.Core.Path.{◌≡◌}
use Prim.Native.Nat.{◌^◌, ◌<◌}
use Rattle.model.specs.Limits.{most_columns}
use Rattle.model.specs.Rows.{laid_term}
use Rattle.reduce.proofs.Looked.{Looked}
use Rattle.reduce.proofs.goings.same_at.Given as goal

abbrev pub invariant-loop-rest : goal.invariant-loop-rest
invariant-loop-rest l =
    (l.rest < 2 ^ most_columns) × Looked (λ p. laid_term l.lines l.a p ≡ laid_term l.lines l.s p) l.columns l.rest

abbrev pub decreases-loop-rest : goal.decreases-loop-rest
decreases-loop-rest l = l.rest
