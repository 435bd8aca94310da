-- `kolbrees_decide`: the decision in numbers.
use Rattle.embed.proofs.operations.kolbrees_decide.Goals as goal

pub returns : goal.returns
returns c = (
  _,
  c.decide_checked-d.ensures,
  λ i. record { reply = c.of_reply-reply.ensures i; session = c.decide_checked-d.result.session },
)
