-- `hidden_bit`: a one shifted to the variable's number, where the term is a hidden variable.
use mathlib.Core.Path.{◌≡◌, refl}
use mathlib.Core.Bool.{Bool, true, false, cond}
use Prim.Native.Nat.{◌*◌, ◌%◌, ◌^◌}
use native.Mathlib.Nat.{mod-eq_of_lt}
use native.Mathlib.Omega.{arith}
use Rattle.words.proofs.ClearBits.{one_shifted}
use Rattle.model.specs.declared.Term.{Term}
use Rattle.entering.specs.Showing.{hidden_term}
use Rattle.entering.proofs.HiddenBits.{hidden_small}
use Rattle.entering.proofs.hiding.hidden_bit.Goals as goal

-- the number of a hidden variable is the place of its bit
placed : (t : Term) (b : Bool) → hidden_term t ≡ b → cond b (1 * 2 ^ (t.number % 64) % 2 ^ 64) 0 ≡ cond b (2 ^ t.number) 0
placed t true e =
    let small = hidden_small t (rw e tt) in
    rw (mod-eq_of_lt {n = t.number} {m = 64} (omega (arith, small))) (one_shifted 64 t.number (omega (arith, small)))
placed t false e = refl

pub returns : goal.returns
returns c = rw (c.value_if.ensures, c.is_hidden.ensures) (placed _ _ refl)
