-- `read_views`: the views held are those of the fields passed.
use Rattle.policy_lines.proofs.ViewsRead.{ViewsRead}
use Rattle.policy_lines.proofs.read_views.Given as goal

abbrev pub invariant-loop-field : goal.invariant-loop-field
invariant-loop-field l = ViewsRead l.s l.l l.outside l.field-iterator
