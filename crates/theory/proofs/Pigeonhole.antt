-- The one counting argument: a function from a list onto a list that is no shorter and has no repeats is one to one.
use mathlib.Core.Path.{◌≡◌, refl, sym, ap, ◌∙◌}
use mathlib.Core.Logic.{⊎_elim}
use mathlib.Core.Option.{some, some-injective}
use mathlib.Core.List.Memᴰ
use mathlib.Core.List.{List, [], ◌∷◌}
use Prim.Native.Nat.{ℕ, ◌≤◌}
use native.Mathlib.Nat.{not-suc-le-zero}
use native.Mathlib.Omega.{arith}
use lib.ListN.{length, get_elem?}
use Rattle.theory.specs.Query.{◌∈◌}
use Rattle.theory.specs.Reduce.{without}
use Rattle.theory.specs.Apart.{NoRepeats, none_repeats, one_more}
use Rattle.theory.proofs.Lists.{place, place_below, without_cases, length_without, head_repeats, tail_repeats}

-- ---- the argument

module _ {X Y : Type 0} (f : X → Y) where
  -- f of each x is a y, and f is one to one
  pub record OneToOne (xs : List X) (ys : List Y) : Type 0 where
    pub into : (x : X) → x ∈ xs → f x ∈ ys
    pub one_to_one : (x x' : X) → x ∈ xs → x' ∈ xs → f x ≡ f x' → x ≡ x'

  abbrev Onto : List X → List Y → Type 0
  Onto xs ys = (y : Y) → y ∈ ys → (x : X) × (x ∈ xs) × (f x ≡ y)

  nothing : (xs : List X) → length xs ≤ 0 → OneToOne xs []
  nothing [] h =
      record {
        into = λ x m. absurd (Memᴰ.not-nil m);
        one_to_one = λ x x' m. absurd (Memᴰ.not-nil m);
      }
  nothing (x ∷ xs) h = absurd (not-suc-le-zero h)

  -- one y and the x at a place that f takes to it, and the rest
  module _ (xs : List X) (y : Y) (ys : List Y) (apart : y ∈ ys → ⊥) (x₀ : X) (i : ℕ)
      (x₀_at : get_elem? xs i ≡ some x₀) (hit : f x₀ ≡ y) where
    at_place : (x : X) → get_elem? xs i ≡ some x → x ≡ x₀
    at_place x e = some-injective x x₀ (sym e ∙ x₀_at)

    rest_onto : Onto xs (y ∷ ys) → Onto (without i xs) ys
    rest_onto onto z m =
        let r = onto z (Memᴰ.tail m) in (
          r.0,
          ⊎_elim (λ e. absurd (apart (Memᴰ.cast (sym hit ∙ ap f (sym (at_place r.0 e)) ∙ r.2) m))) (λ k. k)
              (without_cases i xs r.1),
          r.2,
        )

    whole : OneToOne (without i xs) ys → OneToOne xs (y ∷ ys)
    whole rest =
        record {
          into = λ x m.
              ⊎_elim (λ e. Memᴰ.head (ap f (at_place x e) ∙ hit)) (λ k. Memᴰ.tail (rest.into x k)) (without_cases i xs m);
          one_to_one = λ x x' m m' e.
              ⊎_elim
              (λ a. ⊎_elim (λ b. at_place x a ∙ sym (at_place x' b))
              (λ k. absurd (apart (Memᴰ.cast (sym hit ∙ ap f (sym (at_place x a)) ∙ e) (rest.into x' k))))
              (without_cases i xs m'))
              (λ k. ⊎_elim
              (λ b. absurd (apart (Memᴰ.cast (sym hit ∙ ap f (sym (at_place x' b)) ∙ sym e) (rest.into x k))))
              (λ k'. rest.one_to_one x x' k k' e) (without_cases i xs m'))
              (without_cases i xs m);
        }

  pub pigeonhole : (xs : List X) (ys : List Y) → NoRepeats ys → length xs ≤ length ys → Onto xs ys → OneToOne xs ys
  pigeonhole xs [] r h onto = nothing xs h
  pigeonhole xs (y ∷ ys) r h onto =
      let o = onto y (Memᴰ.head refl) in
      let p = place o.1 in
      let l = length_without p.0 xs (place_below xs p.0 p.1) in
      whole xs y ys (head_repeats r) o.0 p.0 p.1 o.2
      (pigeonhole (without p.0 xs) ys (tail_repeats r) (omega arith)
      (rest_onto xs y ys (head_repeats r) o.0 p.0 p.1 o.2 onto))

-- ---- a list with its repeats taken out

module _ {X : Type 0} (dec : Discrete X) where
  pub member : (x : X) (l : List X) → Dec (x ∈ l)
  member x [] = no (λ m. Memᴰ.not-nil m)
  member x (y ∷ l) = go (dec x y) (member x l)
    where
      go : Dec (x ≡ y) → Dec (x ∈ l) → Dec (x ∈ y ∷ l)
      go (yes e) d = yes (Memᴰ.head e)
      go (no n) (yes m) = yes (Memᴰ.tail m)
      go (no n) (no k) = no (λ m. ⊎_elim n k (Memᴰ.cases_cons m))

  unless : (x : X) (l : List X) → Dec (x ∈ l) → List X
  unless x l (yes m) = l
  unless x l (no n) = x ∷ l

  pub distinct : List X → List X
  distinct [] = []
  distinct (x ∷ l) = unless x (distinct l) (member x (distinct l))

  unless_head : (x : X) (l : List X) (d : Dec (x ∈ l)) → x ∈ unless x l d
  unfolding unless
  unless_head x l (yes m) = m
  unless_head x l (no n) = Memᴰ.head refl

  unless_tail : (x : X) (l : List X) (d : Dec (x ∈ l)) {y : X} → y ∈ l → y ∈ unless x l d
  unfolding unless
  unless_tail x l (yes m) k = k
  unless_tail x l (no n) k = Memᴰ.tail k

  unless_repeats : (x : X) (l : List X) (d : Dec (x ∈ l)) → NoRepeats l → NoRepeats (unless x l d)
  unfolding unless
  unless_repeats x l (yes m) r = r
  unless_repeats x l (no n) r = one_more n r

  unless_cases : (x : X) (l : List X) (d : Dec (x ∈ l)) {y : X} → y ∈ unless x l d → y ∈ x ∷ l
  unfolding unless
  unless_cases x l (yes m) k = Memᴰ.tail k
  unless_cases x l (no n) k = k

  pub distinct_repeats : (l : List X) → NoRepeats (distinct l)
  unfolding distinct
  distinct_repeats [] = none_repeats
  distinct_repeats (x ∷ l) = unless_repeats x (distinct l) (member x (distinct l)) (distinct_repeats l)

  pub mem_distinct : (l : List X) {x : X} → x ∈ l → x ∈ distinct l
  unfolding distinct
  mem_distinct [] m = m
  mem_distinct (y ∷ l) m =
      ⊎_elim (λ e. Memᴰ.cast e (unless_head y (distinct l) (member y (distinct l))))
      (λ t. unless_tail y (distinct l) (member y (distinct l)) (mem_distinct l t)) (Memᴰ.cases_cons m)

  pub distinct_mem : (l : List X) {x : X} → x ∈ distinct l → x ∈ l
  unfolding distinct
  distinct_mem [] m = m
  distinct_mem (y ∷ l) m =
      ⊎_elim (λ e. Memᴰ.head e) (λ t. Memᴰ.tail (distinct_mem l t))
      (Memᴰ.cases_cons (unless_cases y (distinct l) (member y (distinct l)) m))
