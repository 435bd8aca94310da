-- Searching a list: the code's test and the definitions' one.
use mathlib.Core.Path.{◌≡◌, refl}
use mathlib.Core.Bool.{Bool}
use mathlib.Core.List.{List, [], ◌∷◌}
use Prim.Native.Nat.{ℕ}
use lib.Dec.{eqb}
use native.Mathlib.Omega.{arith}
use Rattle.std.proofs.lemmas.Bool.Decides.{nat_tests}
use Rattle.std.specs.List.{list_any}
use Rattle.theory.specs.Executable.Test.{any}

-- an equality read from the other side
pub eqb_swap : (v w : ℕ) → eqb v w ≡ eqb w v
eqb_swap v w = grind (arith, nat_tests)

module _ (f g : ℕ → Bool) (same : (x : ℕ) → f x ≡ g x) where
  pub any_is : (l : List ℕ) → list_any f l ≡ any g l
  unfolding any
  any_is [] = refl
  any_is (x ∷ l) = rw (same x, any_is l)
