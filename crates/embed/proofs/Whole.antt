-- A text that a run would take as one query, all of it.
use mathlib.Core.Path.{◌≡◌, subst}
use mathlib.Core.List.{List}
use Prim.Native.Nat.{ℕ}
use native.Mathlib.Omega.{arith}
use lib.ListN.{length, take}
use lib.Seq.{take_all}
use Rattle.policy_text.specs.Declared.{Declared}
use Rattle.sessions.specs.declared.opening.Session.{Session}
use Rattle.sessions.specs.declared.replies.Decision.{Decision}
use Rattle.sessions.specs.Deciding.{decide_under, Gives}

pub whole : (d : Declared) (s : Session) {o : Decision} (n : ℕ) (text : List ℕ) → n ≡ length text
    → Gives o (decide_under d s (take n text)) → Gives o (decide_under d s text)
whole d s {o} n text e g = subst (λ (t : List ℕ). Gives o (decide_under d s t)) (take_all n text (omega (arith, e))) g
