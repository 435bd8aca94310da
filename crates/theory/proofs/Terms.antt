-- Facts on terms and their images, and decided equality of terms and lines.
use mathlib.Core.Path.{◌≡◌, refl, ap}
use mathlib.Core.Logic.{⊎_elim}
use mathlib.Core.List.Memᴰ
use mathlib.Core.List.{List, [], ◌∷◌}
use Prim.Native.Nat.{ℕ, ◌+◌, ◌<◌}
use native.Mathlib.Decide.{ℕ_discrete}
use native.Mathlib.Omega.{arith}
use Rattle.theory.specs.Query.{Term, Term_discrete, constant, shown, hidden, Line, ◌∈◌}
use Rattle.theory.specs.Reduce.{image}
use Rattle.theory.specs.Cover.{IsHidden}
use Rattle.theory.specs.Executable.Test.{number}
use Rattle.theory.proofs.Tuples.{tuple_discrete}

pub term_discrete : Discrete Term
term_discrete = Term_discrete ℕ_discrete

pub hidden_one : (n k : ℕ) → hidden n ≡ hidden k → n ≡ k
hidden_one n k e = cc

-- a hidden variable comes from a hidden variable
pub from_hidden : (g : ℕ → Term) (t : Term) (k : ℕ) → image g t ≡ hidden k → (n : ℕ) × (t ≡ hidden n)
from_hidden g (constant c) k e = absurd (let z : ◌≡◌ {A = ℕ} 0 1 = cc in omega arith)
from_hidden g (shown n) k e = absurd (let z : ◌≡◌ {A = ℕ} 0 1 = cc in omega arith)
from_hidden g (hidden n) k e = (n, refl)

pub line_discrete : Discrete Line
line_discrete = tuple_discrete term_discrete

pub hidden_decided : (t : Term) → Dec (IsHidden t)
hidden_decided (constant c) = no (λ h. h)
hidden_decided (shown n) = no (λ h. h)
hidden_decided (hidden n) = yes tt

pub is_hidden : (t : Term) → IsHidden t → (n : ℕ) × (t ≡ hidden n)
is_hidden (constant c) h = absurd h
is_hidden (shown n) h = absurd h
is_hidden (hidden n) h = (n, refl)

-- a number above those of the terms
pub above_terms : List Term → ℕ
above_terms [] = 0
above_terms (t ∷ l) = number t + 1 + above_terms l

pub number_below : (l : List Term) (t : Term) → t ∈ l → number t < above_terms l
unfolding above_terms
number_below [] t m = absurd (Memᴰ.not-nil m)
number_below (u ∷ l) t m =
    ⊎_elim (λ e. let f : number t ≡ number u = ap number e in omega arith) (λ k. let f = number_below l t k in omega arith)
    (Memᴰ.cases_cons m)
