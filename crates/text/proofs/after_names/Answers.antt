-- The text's first line ends, and is the names line.
use mathlib.Core.Path.{sym, ◌∙◌}
use native.Mathlib.Omega.{arith}
use lib.ListN.{length-take}
use Rattle.text.proofs.NextLines.{names_unended, names_other, names_same}
use Rattle.text.proofs.after_names.Goals as goal

pub returns-then-text-behind : goal.returns-then-text-behind
returns-then-text-behind c = names_unended _ _ c.next_line-behind.ensures c.if-text-behind.true

pub slice_bounds-same-length : goal.slice_bounds-same-length
slice_bounds-same-length c = simp length-take (omega arith)

pub returns-then-not-same : goal.returns-then-not-same
returns-then-not-same c =
    names_other _ _ c.next_line-behind.ensures c.if-text-behind.false (sym c.same.ensures ∙ c.if-not-same.true)

pub returns : goal.returns
returns c =
    names_same _ _ c.next_line-behind.ensures c.if-text-behind.false (sym c.same.ensures ∙ c.if-not-same.false)
