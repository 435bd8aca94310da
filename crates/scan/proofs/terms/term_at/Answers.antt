-- A space, a mark, and a numeral within the limit of that mark.
use mathlib.Core.Path.{sym, ◌∙◌}
use native.Mathlib.Omega.{arith}
use Rattle.scan.proofs.TermBytes.{term_there}
use Rattle.scan.proofs.terms.term_at.Goals as goal

pub returns : goal.returns
returns c =
    term_there _ _ _ (omega arith) c.if-text-at-ne32.false c.mark_of-mark.ensures c.if-mark-eq0.false c.in_ok-n.ensures
    (sym c.within.ensures ∙ c.if-not-within.false)
