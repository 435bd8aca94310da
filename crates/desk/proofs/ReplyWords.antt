-- The three words of a reply are apart.
use mathlib.Core.Path.{◌≡◌, sym, ap, ◌∙◌}
use Prim.Native.Nat.{ℕ}
use native.Mathlib.Omega.{arith}
use Rattle.sessions.specs.Reply.{Word, yes, no, refused}

number : Word → ℕ
number yes = 0
number no = 1
number refused = 2

pub no_yes : {w : Word} → w ≡ no → w ≡ yes → ⊥
unfolding number
no_yes e f = omega (arith, ap number (sym e ∙ f))

pub turned_yes : {w : Word} → w ≡ refused → w ≡ yes → ⊥
unfolding number
turned_yes e f = omega (arith, ap number (sym e ∙ f))

pub turned_no : {w : Word} → w ≡ refused → w ≡ no → ⊥
unfolding number
turned_no e f = omega (arith, ap number (sym e ∙ f))
