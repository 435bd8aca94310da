-- A line by itself has no clash where no variable of it is both shown and hidden.
use mathlib.Core.Path.{refl, subst}
use mathlib.Core.Logic.{◌↔◌}
use mathlib.Core.List.Memᴰ
use mathlib.Core.List.{[], ◌∷◌}
use Prim.Native.Nat.{ℕ}
use Rattle.theory.specs.Query.{shown, hidden, Line, ◌∈◌, NoClash}

pub apart_iff : (A : Line) → NoClash (A ∷ []) ↔ ((n : ℕ) → shown n ∈ A.columns → hidden n ∈ A.columns → ⊥)
apart_iff A = (
  λ clear n. clear n A A (Memᴰ.head refl) (Memᴰ.head refl),
  λ f n B C b c s h.
      f n (subst (λ (L : Line). shown n ∈ L.columns) (Memᴰ.eq_of_singleton b) s)
      (subst (λ (L : Line). hidden n ∈ L.columns) (Memᴰ.eq_of_singleton c) h),
)
