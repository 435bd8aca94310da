-- A function from pairs: where equal first parts have equal second parts, looking up a first part finds its second. Maps of
-- variables and valuations are made so.
use mathlib.Core.Path.{◌≡◌, refl, sym, ap, ◌∙◌}
use mathlib.Core.Logic.{⊎_elim, ite}
use mathlib.Core.List.Memᴰ
use mathlib.Core.List.{List, [], ◌∷◌}
use Rattle.theory.specs.Query.{◌∈◌}

module _ {K X : Type 0} where
  -- equal first parts have equal second parts
  abbrev pub Functional : List (K × X) → Type 0
  Functional zs = (y z : K × X) → y ∈ zs → z ∈ zs → y.0 ≡ z.0 → y.1 ≡ z.1

module _ {K X : Type 0} (dec : Discrete K) (d : X) where
  -- what stands with k, and d where nothing does
  pub find : K → List (K × X) → X
  find k [] = d
  find k (z ∷ zs) = ite (dec k z.0) z.1 (find k zs)

  -- what is found stands with k
  finds : (k : K) (zs : List (K × X)) (y : K × X) → y ∈ zs → k ≡ y.0 → (z : K × X) × (z ∈ zs) × (k ≡ z.0) × (find k zs ≡ z.1)
  unfolding find
  finds k [] y m e = absurd (Memᴰ.not-nil m)
  finds k (z ∷ zs) y m e = go (dec k z.0) (λ t. finds k zs y t e)
    where
      go : (c : Dec (k ≡ z.0)) → (y ∈ zs → (w : K × X) × (w ∈ zs) × (k ≡ w.0) × (find k zs ≡ w.1))
          → (w : K × X) × (w ∈ z ∷ zs) × (k ≡ w.0) × (ite c z.1 (find k zs) ≡ w.1)
      go (yes p) rest = (z, Memᴰ.head refl, p, refl)
      go (no n) rest =
          let r = rest (⊎_elim (λ q. absurd (n (e ∙ ap (λ (w : K × X). w.0) q))) (λ t. t) (Memᴰ.cases_cons m)) in
          (r.0, Memᴰ.tail r.1, r.2, r.3)

  pub found : (zs : List (K × X)) → Functional zs → (y : K × X) → y ∈ zs → find y.0 zs ≡ y.1
  found zs f y m = let r = finds y.0 zs y m refl in r.3 ∙ sym (f y r.0 m r.1 r.2)
