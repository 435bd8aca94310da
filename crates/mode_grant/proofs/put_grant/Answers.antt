-- `put_grant`: the views of a list, or that there are none.
use Rattle.text.specs.Names.{bytes}
use Rattle.labelling.proofs.Loaded.{loaded_to}
use Rattle.writing.proofs.Wrote.{wrote_as}
use Rattle.mode_grant.proofs.Replied.{none_added, some_added}
use Rattle.mode_grant.proofs.put_grant.Goals as goal

pub returns-then-numbers-eq0 : goal.returns-then-numbers-eq0
unfolding bytes
returns-then-numbers-eq0 c =
    λ l.
    wrote_as (none_added l.declared.views _ c.if-numbers-eq0.true) c.put_bytes.ensures

pub returns : goal.returns
unfolding bytes
returns c =
    λ l.
    wrote_as (some_added l.declared.views _ c.if-numbers-eq0.false) (c.put_list.ensures.list_put l.declared (loaded_to l))
