-- `put_counts`: what is said, the three numbers and the end.
use Rattle.text.specs.Names.{bytes}
use Rattle.writing.proofs.Wrote.{wrote_byte}
use Rattle.mode_check.proofs.Checked.{wrote_counts}
use borrow.Author.Rules.{rules}
use Rattle.mode_check.proofs.put_counts.Goals as goal

pub returns : goal.returns
unfolding bytes
returns c =
    let end = wrote_byte (search rules) c.put_byte.ensures in
    wrote_counts _ _ _ c.put_bytes-a.ensures c.put_spaced-b.ensures.0 c.put_spaced-c.ensures.0 c.put_spaced-d.ensures.0 end
