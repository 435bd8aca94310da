-- What is written at the front of a buffer stands within it.
use mathlib.Core.Path.{◌≡◌, ap}
use mathlib.Core.List.{List}
use Prim.Native.Nat.{ℕ, ◌≤◌}
use native.Mathlib.Omega.{arith}
use lib.ListN.{length, take, length-take}
use Rattle.writing.specs.Wrote.{Wrote}

pub wrote_within : {was bs is : List ℕ} {r : ℕ} → Wrote was 0 bs is r → r ≤ length is
wrote_within {bs = bs} {is} {r} w =
    let e : length (take r is) ≡ length bs = ap length w.front in
    omega (arith, e, length-take r is, w.next)
