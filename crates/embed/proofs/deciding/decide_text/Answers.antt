-- `decide_text`: what the pass gives, where it ends with the text.
use native.Mathlib.Omega.{arith}
use Rattle.embed.proofs.Whole.{whole}
use Rattle.embed.proofs.deciding.decide_text.Goals as goal

pub returns : goal.returns
returns c d ready =
    whole d c.args.s c.decide_next-next.result.end c.args.text.now (omega arith) (c.decide_next-next.ensures.next_decided.gives d ready)
