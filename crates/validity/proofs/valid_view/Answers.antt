-- `valid_view`: the terms are those for the width of the line.
use mathlib.Core.Logic.Iff
use borrow.Author.Rules.{rules}
use Rattle.words.proofs.Answers.{no_iff}
use Rattle.model.proofs.Values.{mapped_long}
use Rattle.validity.proofs.Views.{too_wide, width_iff_place}
use Rattle.validity.proofs.valid_view.Goals as goal

pub returns-then-w : goal.returns-then-w
returns-then-w c widths tables =
    no_iff (too_wide widths _ tables c.args.l c.width_for-w.ensures c.if-w.true)

pub returns : goal.returns
returns c widths tables =
    Iff.trans c.valid_terms.ensures
    (width_iff_place widths _ tables c.args.l c.width_for-w.ensures c.if-w.false
    (search (rules, mapped_long)))
