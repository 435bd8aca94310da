-- The marks of terms.
use mathlib.Core.Path.{◌≡◌, refl}
use Prim.Native.Nat.{ℕ}
use native.Mathlib.Omega.{arith}
use Rattle.theory.specs.Query.{Term, constant, shown, hidden}
use Rattle.theory.specs.Executable.Test.{kind, number}
use Rattle.model.specs.Value.{unused_term, term_value}

pub unused_mark : unused_term.mark ≡ 0
unfolding unused_term
unused_mark = refl

pub constant_mark : (c : ℕ) → (term_value (constant c)).mark ≡ 1
unfolding term_value kind
constant_mark c = refl

pub shown_mark : (n : ℕ) → (term_value (shown n)).mark ≡ 2
unfolding term_value kind
shown_mark n = refl

pub hidden_mark : (n : ℕ) → (term_value (hidden n)).mark ≡ 3
unfolding term_value kind
hidden_mark n = refl

pub constant_number : (c : ℕ) → (term_value (constant c)).number ≡ c
unfolding term_value number
constant_number c = refl

-- a constant is known by its mark
pub marked_constant : (t : Term) → (term_value t).mark ≡ 1 → t ≡ constant (term_value t).number
unfolding term_value kind number
marked_constant (constant c) e = refl
marked_constant (shown n) e = absurd (omega arith)
marked_constant (hidden n) e = absurd (omega arith)
