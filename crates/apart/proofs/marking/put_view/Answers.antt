-- `put_view`: the view's marked row stands behind the rows then, if the view matches the odd row, and once.
use Rattle.apart.proofs.ViewRows.{unmatched, standing, written}
use Rattle.apart.proofs.marking.put_view.Goals as goal

pub returns-then-not-matches : goal.returns-then-not-matches
returns-then-not-matches c = unmatched _ c.matches.ensures c.if-not-matches.true

pub returns-then-stands : goal.returns-then-stands
returns-then-stands c =
    standing _ _ _ _ _ _ _ _ _ c.marked_row-cells.ensures c.stands.ensures c.if-stands.true

pub returns : goal.returns
returns c =
    written _ _ _ _ _ _ _ _ _ c.marked_row-cells.ensures c.stands.ensures _ c.matches.ensures
    c.if-not-matches.false c.if-stands.false c.put_row.ensures
