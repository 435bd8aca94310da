-- `number_term`: a variable gets the place that is found, which is below the bits of a word.
use mathlib.Core.Path.{◌≡◌, ◌∙◌}
use native.Mathlib.Omega.{arith}
use Rattle.text.specs.Lines.{before}
use Rattle.numbering.proofs.Search.{sought, place_or_end}
use Rattle.numbering.proofs.Numbered.{numbered_other, numbered_variable}
use Rattle.numbering.proofs.lines.number_term.Goals as goal
use Rattle.numbering.proofs.lines.number_term.Goals.{After-unwrap_or-n}

pub returns-then-t-ne-HIDDEN : goal.returns-then-t-ne-HIDDEN
returns-then-t-ne-HIDDEN c = numbered_other _ _ _ c.if-t-ne-HIDDEN.true

place : (c : After-unwrap_or-n) → c.unwrap_or-n.result ≡ before c.args.t.number c.args.keys.now
place c = c.unwrap_or-n.ensures ∙ place_or_end _ _ _ (sought _ _ c.place_of.ensures)

pub has_bit-requires : goal.has_bit-requires
has_bit-requires c = omega (arith, place c, c.requires.0 c.if-t-ne-HIDDEN.false)

pub returns-then-has_bit : goal.returns-then-has_bit
returns-then-has_bit c =
    numbered_variable _ _ _ _ c.if-t-ne-HIDDEN.false (place (goal.at.returns-then-has_bit c).After-unwrap_or-n) c.has_bit.ensures c.if-has_bit.true

pub returns : goal.returns
returns c =
    numbered_variable _ _ _ _ c.if-t-ne-HIDDEN.false (place (goal.at.returns c).After-unwrap_or-n) c.has_bit.ensures c.if-has_bit.false
