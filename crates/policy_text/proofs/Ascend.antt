-- Lists that ascend, as a partition's views do.
use mathlib.Core.Path.{◌≡◌, refl, sym, ap₂}
use mathlib.Core.Logic.{◌↔◌, ⊎_elim}
use mathlib.Core.List.Memᴰ
use mathlib.Core.List.{List, [], ◌∷◌, ◌++◌}
use Prim.Native.Nat.{ℕ, ◌<◌}
use native.Mathlib.Omega.{arith}
use lib.Dec.{T, ltb, ltb→lt, lt→ltb}
use Rattle.theory.specs.Query.{◌∈◌}
use Rattle.theory.proofs.Executable.Test.{and_iff}
use Rattle.policy_text.specs.WellFormed.{ascend}

-- the first of views that ascend is below the others
below_rest : (v : ℕ) (vs : List ℕ) → T (ascend (v ∷ vs)) → (w : ℕ) → w ∈ vs → v < w
unfolding ascend
below_rest v [] h w i = absurd (Memᴰ.not-nil i)
below_rest v (u ∷ vs) h w i =
    let k = (and_iff (ltb v u) _).0 h in
    let l = ltb→lt v u k.0 in
    let rest = below_rest u vs k.1 w in
    ⊎_elim (λ e. omega (arith, l, e)) (λ j. omega (arith, l, rest j)) (Memᴰ.cases_cons i)

ascend_rest : (v : ℕ) (vs : List ℕ) → T (ascend (v ∷ vs)) → T (ascend vs)
unfolding ascend
ascend_rest v [] h = tt
ascend_rest v (u ∷ vs) h = ((and_iff (ltb v u) _).0 h).1

-- a view below all others before them
pub ascend_more : (v : ℕ) (vs : List ℕ) → ((w : ℕ) → w ∈ vs → v < w) → T (ascend vs) → T (ascend (v ∷ vs))
unfolding ascend
ascend_more v [] above h = tt
ascend_more v (u ∷ vs) above h = (and_iff (ltb v u) _).1 (lt→ltb v u (above u (Memᴰ.head refl)), h)

-- two lists that ascend and have the same elements are one
pub ascend_unique : (vs ws : List ℕ) → T (ascend vs) → T (ascend ws) → ((v : ℕ) → (v ∈ vs) ↔ (v ∈ ws)) → vs ≡ ws
ascend_unique [] [] h g same = refl
ascend_unique [] (w ∷ ws) h g same = absurd (Memᴰ.not-nil ((same w).1 (Memᴰ.head refl)))
ascend_unique (v ∷ vs) [] h g same = absurd (Memᴰ.not-nil ((same v).0 (Memᴰ.head refl)))
ascend_unique (v ∷ vs) (w ∷ ws) h g same =
    ap₂ ◌∷◌ first (ascend_unique vs ws (ascend_rest v vs h) (ascend_rest w ws g) rest)
  where
    first : v ≡ w
    first =
        ⊎_elim (λ e. e)
        (λ i. ⊎_elim (λ e. sym e) (λ j. absurd (omega (arith, below_rest w ws g v i, below_rest v vs h w j)))
        (Memᴰ.cases_cons ((same w).1 (Memᴰ.head refl))))
        (Memᴰ.cases_cons ((same v).0 (Memᴰ.head refl)))

    rest : (u : ℕ) → (u ∈ vs) ↔ (u ∈ ws)
    rest u = (
      λ i. ⊎_elim (λ e. absurd (omega (arith, below_rest v vs h u i, first, e))) (λ j. j)
          (Memᴰ.cases_cons ((same u).0 (Memᴰ.tail i))),
      λ i. ⊎_elim (λ e. absurd (omega (arith, below_rest w ws g u i, first, e))) (λ j. j)
          (Memᴰ.cases_cons ((same u).1 (Memᴰ.tail i))),
    )

-- one more behind those below it
pub ascend_append : (vs : List ℕ) (v : ℕ) → T (ascend vs) → ((w : ℕ) → w ∈ vs → w < v) → T (ascend (vs ++ v ∷ []))
unfolding ascend
ascend_append [] v h below = tt
ascend_append (a ∷ []) v h below = (and_iff (ltb a v) _).1 (lt→ltb a v (below a (Memᴰ.head refl)), tt)
ascend_append (a ∷ b ∷ l) v h below =
    let k = (and_iff (ltb a b) _).0 h in
    (and_iff (ltb a b) _).1 (k.0, ascend_append (b ∷ l) v k.1 (λ w i. below w (Memᴰ.tail i)))
