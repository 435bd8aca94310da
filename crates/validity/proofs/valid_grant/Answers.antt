-- `valid_grant`: no bit at the number of partitions or past it.
use borrow.Author.Tests.{eqb-true, eq-eqb}
use Prim.Native.Nat.{◌^◌, ◌<◌}
use Rattle.validity.proofs.Held.{used_iff, unused_iff}
use Rattle.validity.proofs.Partitions.{shifted_iff}
use Rattle.validity.proofs.valid_grant.Goals as goal

pub returns-then-used : goal.returns-then-used
returns-then-used c =
    let a = c.args in used_iff (λ g. g < 2 ^ a.n) 0 a.used c.if-used.true (shifted_iff a.n a.g)

pub returns : goal.returns
returns c =
    let a = c.args in
    unused_iff (λ g. g < 2 ^ a.n) 0 a.used c.if-used.false (eqb-true a.g 0, eq-eqb a.g 0)
