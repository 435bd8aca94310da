-- `put_indented`: the spaces, the bytes and the end.
use native.Mathlib.Omega.{arith}
use Rattle.writing.proofs.Wrote.{wrote_byte, wrote_more}
use Rattle.page.specs.Refusal.{indented}
use Rattle.page.proofs.below.put_indented.Goals as goal

pub returns : goal.returns
unfolding indented
returns c =
    let end = wrote_byte (omega arith) c.put_byte.ensures in
    wrote_more (wrote_more c.put_bytes-a.ensures c.put_bytes-b.ensures) end
