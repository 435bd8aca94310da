-- `put_answer`: `yes` or `no`.
use Rattle.text.specs.Names.{bytes}
use Rattle.writing.proofs.Wrote.{wrote_as}
use Rattle.mode_compare.specs.Compare.{answer}
use Rattle.mode_compare.proofs.put_answer.Goals as goal

pub returns-then-below : goal.returns-then-below
unfolding answer bytes
returns-then-below c = wrote_as (rw c.if-below.true) c.put_bytes.ensures

pub returns : goal.returns
unfolding answer bytes
returns c = wrote_as (rw c.if-below.false) c.put_bytes-2.ensures
