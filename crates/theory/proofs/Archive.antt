-- Document 01, "Answers".
use mathlib.Core.Path.{◌≡◌, refl, sym}
use mathlib.Core.List.Memᴰ
use Prim.Native.Nat.{ℕ}
use Rattle.theory.specs.Query.{Term, constant, shown, hidden, Line, Query, ◌∈◌}
use Rattle.theory.specs.Archive.{Archive, Answer, value}
use Rattle.theory.proofs.Tuples.{over_same}

value_at_shown : (s t h : ℕ → ℕ) (u : Term) → ((n : ℕ) → shown n ≡ u → s n ≡ t n) → value s h u ≡ value t h u
value_at_shown s t h (constant c) e = refl
value_at_shown s t h (shown n) e = e n refl
value_at_shown s t h (hidden n) e = refl

-- Only what s gives the shown variables of Q plays a part.
pub answer_at_shown : (Q : Query) (D : Archive) (s t : ℕ → ℕ)
    → ((n : ℕ) (A : Line) → A ∈ Q → shown n ∈ A.columns → s n ≡ t n) → Answer Q D s → Answer Q D t
answer_at_shown Q D s t e r =
    let (h, f) = r in (
      h,
      λ A a. Memᴰ.cast
          (sym (over_same (value s h) (value t h) A (λ u k. value_at_shown s t h u (λ n q. e n A a (Memᴰ.cast q k))))) (f A a),
    )
