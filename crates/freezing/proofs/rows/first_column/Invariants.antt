-- `first_column`: no column before `q` has the term of column `p`.
use mathlib.Core.Path.{◌≡◌}
use Prim.Native.Nat.{ℕ, ◌<◌}
use Rattle.model.specs.Rows.{laid_term}
use Rattle.freezing.proofs.rows.first_column.Given as goal

abbrev pub invariant-loop-q : goal.invariant-loop-q
invariant-loop-q l = (j : ℕ) → j < l.q → laid_term l.rows l.k j ≡ laid_term l.rows l.k l.p → ⊥
