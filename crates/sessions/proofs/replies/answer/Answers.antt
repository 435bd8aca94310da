-- `answer`: no with the session as it was, or yes with the partitions left, and their count.
use mathlib.Core.Path.{refl, ap}
use borrow.Author.Tests.{eq-eqb, ne_eqb}
use Prim.Native.Nat.{ℕ}
use Rattle.sessions.specs.Reply.{said}
use Rattle.sessions.specs.Reply.{yes as affirmed, no as denied}
use Rattle.sessions.specs.Deciding.{answered}
use Rattle.sessions.proofs.replies.answer.Goals as goal

pub returns-then-left-eq0 : goal.returns-then-left-eq0
unfolding said answered
returns-then-left-eq0 c =
    rw (eq-eqb _ 0 c.if-left-eq0.true)
    (record { reply = ap (λ (n : ℕ). record { word = denied; count = n; number = 0; line = 0 }) c.ones.ensures; session = refl })

pub returns : goal.returns
unfolding said answered
returns c =
    rw (ne_eqb _ 0 c.if-left-eq0.false)
    (record { reply = ap (λ (n : ℕ). record { word = affirmed; count = n; number = 0; line = 0 }) c.ones-2.ensures; session = refl })
