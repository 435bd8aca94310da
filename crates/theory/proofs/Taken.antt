-- A list that has every number below j has at least j elements.
use mathlib.Core.Path.{◌≡◌, sym, ◌∙◌}
use mathlib.Core.Logic.{⊎_elim}
use mathlib.Core.Option.{some-injective}
use mathlib.Core.List.{List}
use Prim.Native.Nat.{ℕ, zero, suc, ◌≤◌, ◌<◌, zero-le}
use native.Mathlib.Omega.{arith}
use lib.ListN.{length}
use Rattle.theory.specs.Query.{◌∈◌}
use Rattle.theory.specs.Reduce.{without}
use Rattle.theory.proofs.Lists.{place, place_below, without_cases, length_without}

-- by taking j − 1 out
pub below_in_list : (l : List ℕ) (j : ℕ) → ((k : ℕ) → k < j → k ∈ l) → j ≤ length l
below_in_list l zero f = zero-le
below_in_list l (suc j) f =
    let (i, j-at) = place (f j (omega arith)) in
    let rest = below_in_list (without i l) j (λ k h.
    ⊎_elim (λ e. absurd (other k h (some-injective k j (sym e ∙ j-at)))) (λ r. r) (without_cases i l (f k (omega (arith, h))))) in
    omega (arith, rest, length_without i l (place_below l i j-at))
  where
    other : (k : ℕ) → k < j → k ≡ j → ⊥
    other k h e = omega (arith, h, e)
