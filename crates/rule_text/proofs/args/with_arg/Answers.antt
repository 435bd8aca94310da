-- `with_arg`: the term goes into the place behind the last, if there is one.
use Rattle.rule_text.proofs.ArgsHeld.{Placed, placed_within, placed_past, behind_args}
use Rattle.rule_text.proofs.args.with_arg.Goals as goal
use Rattle.rule_text.proofs.args.with_arg.Goals.{Joined-a-lt-MOST_COLUMNS, else-a-lt-MOST_COLUMNS, then-a-lt-MOST_COLUMNS}

placed : (c : Joined-a-lt-MOST_COLUMNS) → Placed c.args.a c.args.t c.if-a-lt-MOST_COLUMNS.r
placed c = elim c.if-a-lt-MOST_COLUMNS.branch [ then-a-lt-MOST_COLUMNS w ↦ placed_within w.r-is | else-a-lt-MOST_COLUMNS w ↦ placed_past w.if-a-lt-MOST_COLUMNS.false w.r-is ]

pub returns : goal.returns
returns c = behind_args _ _ _ (placed (goal.at.returns c).Joined-a-lt-MOST_COLUMNS)
