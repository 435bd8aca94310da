-- `with_term`: the term goes into the place behind the last, if there is one, and the words each get the bit that it has.
use native.Mathlib.Omega.{arith}
use Rattle.model.proofs.Terms.{Placed, placed_within, placed_past, behind}
use Rattle.model.proofs.read.with_term.Goals as goal
use Rattle.model.proofs.read.with_term.Goals.{Joined-at-lt-MOST_COLUMNS, else-at-lt-MOST_COLUMNS, then-at-lt-MOST_COLUMNS}

pub with_mark-requires : goal.with_mark-requires
with_mark-requires c e = c.requires.number_le_last_variable (omega arith)

pub with_mark-requires-2 : goal.with_mark-requires-2
with_mark-requires-2 c e = c.requires.number_le_last_variable (omega arith)

placed : (c : Joined-at-lt-MOST_COLUMNS) → Placed c.args.p c.args.t c.if-at-lt-MOST_COLUMNS.r
placed c = elim c.if-at-lt-MOST_COLUMNS.branch [ then-at-lt-MOST_COLUMNS w ↦ placed_within w.r-is | else-at-lt-MOST_COLUMNS w ↦ placed_past w.if-at-lt-MOST_COLUMNS.false w.r-is ]

pub returns : goal.returns
returns c = behind _ _ _ _ _ (placed (goal.at.returns c).Joined-at-lt-MOST_COLUMNS) c.with_mark.ensures c.with_mark-2.ensures
