-- `put_spaced`: the space and the digits.
use mathlib.Core.List.{[], ◌∷◌}
use native.Mathlib.Omega.{arith}
use Rattle.text.specs.Lines.{space}
use Rattle.writing.specs.Wrote.{Wrote}
use Rattle.writing.proofs.Wrote.{wrote_byte, wrote_more}
use Rattle.writing.proofs.Decimal.{length_word}
use Rattle.page.proofs.views.put_spaced.Goals as goal
use Rattle.page.proofs.views.put_spaced.Goals.{After-put_byte-a}

space_put : (c : After-put_byte-a) →
    Wrote c.args.out.now c.args.at (space ∷ []) c.put_byte-a.new.out c.put_byte-a.result
space_put c = wrote_byte (omega (arith, c.requires)) c.put_byte-a.ensures

pub put_number-requires : goal.put_number-requires
put_number-requires c =
    omega (arith, c.requires, length_word c.args.n c.ranges.n.fits, c.put_byte-a.ensures.1, (space_put (goal.at.put_number-requires c).After-put_byte-a).size)

pub returns : goal.returns
returns c =
    let w = c.put_number.ensures in
    (wrote_more (space_put (goal.at.returns c).After-put_byte-a) w, omega (arith, length_word c.args.n c.ranges.n.fits, c.put_byte-a.ensures.1, w.next))
