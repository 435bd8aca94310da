-- Maps of a reduced query into itself: every line is hit, and hidden variables go to hidden variables one to one.
use mathlib.Core.Path.{◌≡◌, refl, sym, ap, ◌∙◌, subst}
use mathlib.Core.Logic.{⊎_elim}
use mathlib.Core.Option.{some, some-injective}
use mathlib.Core.List.Memᴰ
use mathlib.Core.List.{List, [], ◌∷◌, ◌++◌, map}
use Prim.Native.Nat.{ℕ}
use native.Mathlib.Nat.{le_of_eq}
use native.Mathlib.Decide.{ℕ_discrete}
use native.Mathlib.Omega.{arith}
use lib.ListN.{length-map, get_elem?}
use Rattle.theory.specs.Query.{Term, constant, shown, hidden, over, Line, Query, ◌∈◌}
use Rattle.theory.specs.Reduce.{image, Sends, Reduced}
use Rattle.theory.proofs.Lists.{place, place_below, without_cases, map_no_repeats}
use Rattle.theory.proofs.Terms.{hidden_one, from_hidden, line_discrete}
use Rattle.theory.proofs.Pigeonhole.{OneToOne, pigeonhole, member, distinct, distinct_repeats, mem_distinct, distinct_mem}

-- the hidden variable stands in the query
abbrev pub Stands : ℕ → Query → Type 0
Stands n R = (A : Line) × (A ∈ R) × (hidden n ∈ A.columns)

-- ---- the hidden variables of a query

hiddens : List Term → List ℕ
hiddens [] = []
hiddens (constant c ∷ l) = hiddens l
hiddens (shown n ∷ l) = hiddens l
hiddens (hidden n ∷ l) = n ∷ hiddens l

hiddens_of : (l : List Term) (n : ℕ) → hidden n ∈ l → n ∈ hiddens l
unfolding hiddens
hiddens_of [] n m = absurd (Memᴰ.not-nil m)
hiddens_of (constant c ∷ l) n m =
    ⊎_elim (λ e. absurd (let z : ◌≡◌ {A = ℕ} 0 1 = cc in omega arith)) (λ t. hiddens_of l n t) (Memᴰ.cases_cons m)
hiddens_of (shown k ∷ l) n m =
    ⊎_elim (λ e. absurd (let z : ◌≡◌ {A = ℕ} 0 1 = cc in omega arith)) (λ t. hiddens_of l n t) (Memᴰ.cases_cons m)
hiddens_of (hidden k ∷ l) n m =
    ⊎_elim (λ e. Memᴰ.head (hidden_one n k e)) (λ t. Memᴰ.tail (hiddens_of l n t)) (Memᴰ.cases_cons m)

of_hiddens : (l : List Term) (n : ℕ) → n ∈ hiddens l → hidden n ∈ l
unfolding hiddens
of_hiddens [] n m = absurd (Memᴰ.not-nil m)
of_hiddens (constant c ∷ l) n m = Memᴰ.tail (of_hiddens l n m)
of_hiddens (shown k ∷ l) n m = Memᴰ.tail (of_hiddens l n m)
of_hiddens (hidden k ∷ l) n m =
    ⊎_elim (λ e. Memᴰ.head (ap hidden e)) (λ t. Memᴰ.tail (of_hiddens l n t)) (Memᴰ.cases_cons m)

variables : Query → List ℕ
variables [] = []
variables (A ∷ R) = hiddens A.columns ++ variables R

variables_of : (R : Query) (n : ℕ) → Stands n R → n ∈ variables R
unfolding variables
variables_of [] n s = absurd (Memᴰ.not-nil s.1)
variables_of (A ∷ R) n s =
    ⊎_elim
    (λ e. Memᴰ.append_left (variables R) (hiddens_of A.columns n (subst (λ (B : Line). hidden n ∈ B.columns) e s.2)))
    (λ t. Memᴰ.append_right (hiddens A.columns) (variables_of R n (s.0, t, s.2)))
    (Memᴰ.cases_cons s.1)

of_variables : (R : Query) (n : ℕ) → n ∈ variables R → Stands n R
unfolding variables
of_variables [] n m = absurd (Memᴰ.not-nil m)
of_variables (A ∷ R) n m =
    ⊎_elim (λ k. (A, Memᴰ.head refl, of_hiddens A.columns n k))
    (λ k. let r = of_variables R n k in (r.0, Memᴰ.tail r.1, r.2)) (Memᴰ.append_cases (hiddens A.columns) m)

-- ---- a map of a reduced query into itself

module _ {R : Query} (reduced : Reduced R) {g : ℕ → Term} (sends : Sends g R R) where
  -- A line that is not hit could go.
  pub hits : (A : Line) → A ∈ R → (B : Line) × (B ∈ R) × (over (image g) B ≡ A)
  hits A m = go (member line_discrete A (map (over (image g)) R))
    where
      p : (i : ℕ) × (get_elem? R i ≡ some A)
      p = place m

      go : Dec (A ∈ map (over (image g)) R) → (B : Line) × (B ∈ R) × (over (image g) B ≡ A)
      go (yes k) = Memᴰ.of_map (over (image g)) R k
      go (no n) =
          absurd
          (reduced p.0 (
            place_below R p.0 p.1,
            g,
            λ B k.
                ⊎_elim
                (λ e. absurd
                (n (Memᴰ.cast (some-injective A (over (image g) B) (sym p.1 ∙ e)) (Memᴰ.map (over (image g)) k))))
                (λ t. t) (without_cases p.0 R (sends B k)),
          ))

  -- a hidden variable is the image of one
  from_variable : (k : ℕ) → Stands k R → (n : ℕ) × Stands n R × (g n ≡ hidden k)
  from_variable k s =
      let b = hits s.0 s.1 in
      let t = Memᴰ.of_map (image g) b.0.columns (subst (λ (B : Line). hidden k ∈ B.columns) (sym b.2) s.2) in
      let n = from_hidden g t.0 k t.2 in
      (n.0, (b.0, b.1, Memᴰ.cast (sym n.1) t.1), sym (ap (image g) n.1) ∙ t.2)

  ns : List ℕ
  ns = distinct ℕ_discrete (variables R)

  in_ns : (n : ℕ) → Stands n R → n ∈ ns
  unfolding ns
  in_ns n s = mem_distinct ℕ_discrete (variables R) (variables_of R n s)

  on_variables : OneToOne g ns (map hidden ns)
  unfolding ns
  on_variables =
      pigeonhole g ns (map hidden ns) (map_no_repeats hidden ns (λ n k i j. hidden_one n k) (distinct_repeats ℕ_discrete (variables R)))
      (le_of_eq (sym (length-map ns hidden)))
      (λ y m.
      let k = Memᴰ.of_map hidden ns m in
      let r = from_variable k.0 (of_variables R k.0 (distinct_mem ℕ_discrete (variables R) k.1)) in
      (r.0, in_ns r.0 r.1, r.2 ∙ k.2))

  pub hidden_stay : (n : ℕ) → Stands n R → (k : ℕ) × (g n ≡ hidden k)
  hidden_stay n s = let k = Memᴰ.of_map hidden ns (on_variables.into n (in_ns n s)) in (k.0, sym k.2)

  pub one_to_one : (n k : ℕ) → Stands n R → Stands k R → g n ≡ g k → n ≡ k
  one_to_one n k s t e = on_variables.one_to_one n k (in_ns n s) (in_ns k t) e
