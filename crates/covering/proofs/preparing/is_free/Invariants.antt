-- `is_free`: no column before `q` has the term, but for `p` itself.
use mathlib.Core.Path.{◌≡◌}
use Prim.Native.Nat.{ℕ, ◌<◌}
use Rattle.model.specs.Rows.{laid_term}
use Rattle.covering.proofs.preparing.is_free.Given as goal

abbrev pub invariant-loop-q : goal.invariant-loop-q
invariant-loop-q l = (j : ℕ) → j < l.q → l.t ≡ laid_term l.rows l.k j → j ≡ l.p
