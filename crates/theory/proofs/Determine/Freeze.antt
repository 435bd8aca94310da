-- Values for the terms of a query, no two of them alike, and a further one for each of the first columns, its mark.
use mathlib.Core.Path.{◌≡◌, ap}
use mathlib.Core.Logic.{⊎_elim}
use mathlib.Core.List.Memᴰ
use mathlib.Core.List.{List, [], ◌∷◌, ◌++◌}
use Prim.Native.Nat.{ℕ, ◌+◌, ◌<◌}
use native.Mathlib.Omega.{arith}
use Rattle.theory.specs.Query.{Term, constant, shown, hidden, Line, Query, ◌∈◌}
use Rattle.theory.specs.Archive.{Row, value, row}
use Rattle.theory.specs.Executable.Test.{number}
use Rattle.theory.proofs.Terms.{above_terms, number_below}

-- the term stands in one of the lines
abbrev pub In : List Line → Term → Type 0
In l t = (A : Line) × (A ∈ l) × (t ∈ A.columns)

-- s and h for the variables of R, and marks for the first w columns
pub record Frozen (vs : List Line) (R : Query) (w : ℕ) : Type 0 where
  pub s : ℕ → ℕ
  pub h : ℕ → ℕ
  pub mark : ℕ → ℕ
  -- different terms have different values
  pub one : (t u : Term) → In R t → In R u → value s h t ≡ value s h u → t ≡ u
  -- a constant of a view is no variable's value
  pub clear : (t : Term) (c : ℕ) → In R t → In vs (constant c) → value s h t ≡ c → t ≡ constant c
  -- a mark is no term's value, and different columns have different marks
  pub far : (t : Term) (p : ℕ) → In R t → p < w → value s h t ≡ mark p → ⊥
  pub marks : (p q : ℕ) → p < w → q < w → mark p ≡ mark q → p ≡ q

module _ {vs : List Line} {R : Query} {w : ℕ} (F : Frozen vs R w) where
  abbrev pub frozen : Term → ℕ
  frozen t = value F.s F.h t

  abbrev pub freeze : Line → Row
  freeze B = row F.s F.h B

-- ---- values that are large enough

above : List Line → ℕ
above [] = 1
above (A ∷ l) = above_terms A.columns + above l

above_of : (l : List Line) (t : Term) → In l t → number t < above l
unfolding above
above_of [] t (A, m, k) = absurd (Memᴰ.not-nil m)
above_of (B ∷ l) t (A, m, k) =
    ⊎_elim
    (λ e.
    let f = number_below A.columns t k in
    let g : above_terms A.columns ≡ above_terms B.columns = ap (λ (C : Line). above_terms C.columns) e in
    omega (arith, f, g))
    (λ n. let f = above_of l t (A, n, k) in omega (arith, f)) (Memᴰ.cases_cons m)

-- Constants are below N, shown variables from N, hidden ones from N + N and marks from N + N + N on.
module _ (N : ℕ) where
  s₀ : ℕ → ℕ
  s₀ n = N + n

  h₀ : ℕ → ℕ
  h₀ n = N + N + n

  m₀ : ℕ → ℕ
  m₀ p = N + N + N + p

  one₀ : (t u : Term) → number t < N → number u < N → value s₀ h₀ t ≡ value s₀ h₀ u → t ≡ u
  unfolding s₀ h₀ number
  one₀ (constant c) (constant d) l m e = ap constant e
  one₀ (constant c) (shown k) l m e = absurd (omega arith)
  one₀ (constant c) (hidden k) l m e = absurd (omega arith)
  one₀ (shown n) (constant d) l m e = absurd (omega arith)
  one₀ (shown n) (shown k) l m e = ap shown (omega arith)
  one₀ (shown n) (hidden k) l m e = absurd (omega arith)
  one₀ (hidden n) (constant d) l m e = absurd (omega arith)
  one₀ (hidden n) (shown k) l m e = absurd (omega arith)
  one₀ (hidden n) (hidden k) l m e = ap hidden (omega arith)

  far₀ : (t : Term) (p : ℕ) → number t < N → value s₀ h₀ t ≡ m₀ p → ⊥
  unfolding s₀ h₀ m₀ number
  far₀ (constant c) p l e = omega arith
  far₀ (shown n) p l e = omega arith
  far₀ (hidden n) p l e = omega arith

  marks₀ : (p q : ℕ) → m₀ p ≡ m₀ q → p ≡ q
  unfolding m₀
  marks₀ p q e = omega arith

pub large : (vs : List Line) (R : Query) (w : ℕ) → Frozen vs R w
unfolding number
large vs R w =
    let N = above (R ++ vs) in
    let in_R : (t : Term) → In R t → number t < N = λ t (A, m, k). above_of (R ++ vs) t (A, Memᴰ.append_left vs m, k) in
    record {
      s = s₀ N;
      h = h₀ N;
      mark = m₀ N;
      one = λ t u i j e. one₀ N t u (in_R t i) (in_R u j) e;
      clear = λ t c i (A, m, k) e.
          one₀ N t (constant c) (in_R t i) (above_of (R ++ vs) (constant c) (A, Memᴰ.append_right R m, k)) e;
      far = λ t p i l e. far₀ N t p (in_R t i) e;
      marks = λ p q i j e. marks₀ N p q e;
    }
