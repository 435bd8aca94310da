-- `is_shared`: a hidden variable that has a bit, and the bit is set.
use mathlib.Core.Path.{◌≡◌, subst}
use Prim.Native.Nat.{◌%◌}
use native.Mathlib.Nat.{mod-eq_of_lt}
use native.Mathlib.Omega.{arith}
use lib.Dec.{T}
use borrow.Author.Tests.{not-true, not-false}
use Rattle.entering.proofs.HiddenBits.{hidden_small}
use mathlib.Core.Path.{ap}
use mathlib.Core.Bool.{not}
use Rattle.entering.proofs.showing.is_shared.Goals as goal

pub returns-then-not-is_hidden : goal.returns-then-not-is_hidden
returns-then-not-is_hidden c = simp (← c.is_hidden.ensures, not-true c.is_hidden.result (ap not c.if-not-is_hidden.true))

pub returns : goal.returns
returns c =
    let hidden = c.is_hidden in
    let is = not-false hidden.result (ap not c.if-not-is_hidden.false) in
    let small = hidden_small _ (subst T hidden.ensures (rw is tt)) in
    let n = c.args.t.number in
    let same : n % 64 ≡ n = mod-eq_of_lt (omega (arith, small)) in
    simp (← hidden.ensures, is) (rw same at c.has_bit-there.ensures)
