-- `put_turned`: the pieces of the line, one behind the other, and the rule below it.
use Rattle.text.specs.Names.{bytes}
use Rattle.mode_rules.proofs.Entry.{wrote_refused}
use Rattle.mode_rules.proofs.turned.put_turned.Goals as goal

pub returns : goal.returns
unfolding bytes
returns c =
    wrote_refused _ _ _ _ c.put_bytes-a.ensures c.put_field-b.ensures.0 c.put_bytes-c.ensures c.put_field-d.ensures.0
    c.put_field-e.ensures.0 c.put_indented.ensures
