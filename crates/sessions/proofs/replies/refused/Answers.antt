-- `refused`: the number and the line, with the session as it was.
use mathlib.Core.Path.{refl}
use Rattle.sessions.specs.Reply.{said}
use Rattle.sessions.specs.Deciding.{turned_back}
use Rattle.sessions.proofs.replies.refused.Goals as goal

pub returns : goal.returns
unfolding said turned_back
returns c = record { reply = refl; session = refl }
