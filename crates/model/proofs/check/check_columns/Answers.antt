-- `check_columns`: each answer is the first check of the table that the line fails.
use Rattle.model.proofs.Misfit.{unknown_table, wrong_width, right_width}
use Rattle.model.proofs.check.check_columns.Goals as goal

pub returns-then-tables-number : goal.returns-then-tables-number
returns-then-tables-number c = let a = c.args in λ w A t e n. unknown_table w A a.tables a.table a.count t e n c.if-tables-number.true

pub returns-then-tables-at : goal.returns-then-tables-at
returns-then-tables-at c =
    let a = c.args in
    λ w A t e n. wrong_width w A a.tables a.table a.count t e n c.if-tables-number.false c.if-tables-at.true

pub returns : goal.returns
returns c =
    let a = c.args in
    λ w A t e n. right_width w A a.tables a.table a.count t e n c.if-tables-number.false c.if-tables-at.false
