-- `mark_of`: the marks are told apart by the bytes, and one of three numbers alone is not 0.
use mathlib.Core.Path.{◌≡◌, refl}
use mathlib.Core.Bool.{cond}
use Prim.Native.Nat.{ℕ}
use native.Mathlib.Decide.{ℕ_discrete}
use lib.Bits.{bit_or}
use lib.Dec.{eqb}
use borrow.Author.Tests.{ne_eqb}
use Rattle.model.specs.Marks.{mark_of}
use Rattle.model.proofs.read.mark_of.Goals as goal

one_of : (b : ℕ) → Dec (b ≡ 35) → Dec (b ≡ 33) → Dec (b ≡ 63)
    → bit_or (bit_or (cond (eqb b 35) 1 0) (cond (eqb b 33) 2 0)) (cond (eqb b 63) 3 0) ≡ mark_of b
unfolding mark_of
one_of b (yes e) x y = rw e refl
one_of b (no n) (yes e) y = rw e refl
one_of b (no n) (no m) (yes e) = rw e refl
one_of b (no n) (no m) (no k) = simp (ne_eqb _ _ n, ne_eqb _ _ m, ne_eqb _ _ k)

pub returns : goal.returns
returns c =
    let b = c.args.b in
    rw c.value_if-constant.ensures (rw c.value_if-shown.ensures (rw c.value_if-hidden.ensures
    (one_of b (ℕ_discrete b 35) (ℕ_discrete b 33) (ℕ_discrete b 63))))
