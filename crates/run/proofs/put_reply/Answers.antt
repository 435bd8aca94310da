-- The line of each kind of reply.
use mathlib.Core.Path.{refl}
use Rattle.sessions.specs.Reply.{yes, no, refused}
use Rattle.run.specs.Output.{word_bytes}
use Rattle.writing.proofs.Wrote.{wrote_as}
use Rattle.run.proofs.Line.{line_yes, line_no, line_refused}
use Rattle.run.proofs.put_reply.Goals as goal

pub returns-in-Yes : goal.returns-in-Yes
unfolding word_bytes
returns-in-Yes c =
    (wrote_as (line_yes _ _ _ c.in-Yes.is) (c.put_line.ensures.line_written yes refl), c.put_line.ensures.out_len_unchanged.1)

pub returns-in-No : goal.returns-in-No
unfolding word_bytes
returns-in-No c =
    (wrote_as (line_no _ _ _ c.in-No.is) (c.put_line-in-No.ensures.line_written no refl), c.put_line-in-No.ensures.out_len_unchanged.1)

pub returns-in-Refused : goal.returns-in-Refused
unfolding word_bytes
returns-in-Refused c =
    (wrote_as (line_refused _ _ _ _ _ c.in-Refused.is) (c.put_line-in-Refused.ensures.line_written refused refl), c.put_line-in-Refused.ensures.out_len_unchanged.1)
