-- `refusal_page`: what is said, the number, the line, and the line of the text.
use mathlib.Core.Logic.{⊎_elim}
use native.Mathlib.Omega.{arith}
use Rattle.page.proofs.Refused.{wrote_refusal}
use Rattle.page.proofs.refusal_page.Goals as goal

pub put_below-requires : goal.put_below-requires
put_below-requires c =
    λ some.
    let (said, room, shown) = c.requires in
    ⊎_elim (λ z. absurd (some z))
    (λ h. omega (
      arith,
      said,
      room,
      h,
      c.put_bytes-a.ensures.next,
      c.put_bytes-a.ensures.size,
      c.put_field-b.ensures.1,
      c.put_field-b.ensures.0.size,
      c.put_field-c.ensures.1,
      c.put_field-c.ensures.0.size,
    )) shown

pub returns : goal.returns
returns c =
    wrote_refusal _ _ _ c.put_bytes-a.ensures c.put_field-b.ensures.0 c.put_field-c.ensures.0 c.put_below.ensures
