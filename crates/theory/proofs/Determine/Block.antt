-- Values of 64 bits: a block of numbers that holds no constant, one for each variable and behind these one for each column, its mark.
use mathlib.Core.Path.{◌≡◌, refl, sym, ap, ◌∙◌, subst}
use mathlib.Core.Logic.{◌⊎◌, ⊎_elim}
use mathlib.Core.List.{List}
use Prim.Native.Nat.{ℕ, ◌+◌, ◌≤◌, ◌<◌}
use native.Mathlib.Omega.{arith}
use Rattle.theory.specs.Query.{Term, constant, shown, hidden, over, Line, Query, ◌∈◌, NoClash}
use Rattle.theory.specs.Archive.{Row, Archive, value, row}
use Rattle.theory.specs.Executable.Show.{show_term}
use Rattle.theory.proofs.Tuples.{over_over, over_same}
use Rattle.theory.proofs.Executable.Show.{show_shows}
use Rattle.theory.proofs.Determine.Freeze.{In, Frozen, freeze}
use Rattle.theory.proofs.Determine.Marked.{first_of, ExtraBy, Extra}

-- document 01, "variables 0 to 63" and "columns 1 to 8": how many there are
abbrev pub variables : ℕ
variables = 64

abbrev pub columns : ℕ
columns = 8

abbrev pub block_long : ℕ
block_long = variables + columns

-- no constant of the lines stands in the block
abbrev pub Spared : (base : ℕ) → List Line → Type 0
Spared base l = (c : ℕ) → In l (constant c) → (c < base) ⊎ (base + block_long ≤ c)

-- shown and hidden variables alike: a query has no number for both
abbrev pub frozen_row : (base : ℕ) → Line → Row
frozen_row base A = row (λ n. base + n) (λ n. base + n) A

-- the mark of a view's hidden variable: that of its first column
abbrev pub mark_by : (base : ℕ) → Line → ℕ → ℕ
mark_by base v m = base + (variables + first_of v.columns (hidden m))

-- the marked rows of the odd one, and no others
abbrev pub ExtraRows : (base : ℕ) → List Line → (odd : Row) → Archive → Type 0
ExtraRows base vs odd extra = ExtraBy (mark_by base) vs odd extra

-- ---- shared variables shown or not, the values are the same

value_shown : (s : ℕ → ℕ) (R : Query) (t : Term) → value s s (show_term R t) ≡ value s s t
unfolding show_term
value_shown s R (constant c) = refl
value_shown s R (shown n) = refl
value_shown s R (hidden n) = ⊎_elim (λ r. ap (value s s) r.1) (λ r. ap (value s s) r.1) (show_shows R (hidden n))

pub frozen_shown : (base : ℕ) (R : Query) (A : Line) → frozen_row base (over (show_term R) A) ≡ frozen_row base A
frozen_shown base R A =
    let s : ℕ → ℕ = λ n. base + n in
    over_over (value s s) (show_term R) A
    ∙ over_same (λ t. value s s (show_term R t)) (value s s) A (λ t m. value_shown s R t)

-- ---- the freezing

module _ (base : ℕ) (vs : List Line) (R : Query) (clear : NoClash R) (small_s : (n : ℕ) → In R (shown n) → n < variables)
    (small_h : (n : ℕ) → In R (hidden n) → n < variables) (spare : Spared base R) (spare_views : Spared base vs) where
  abbrev frozen : Term → ℕ
  frozen t = value (λ n. base + n) (λ n. base + n) t

  inside : (l : List Line) (c x : ℕ) → Spared base l → In l (constant c) → x < block_long → c ≡ base + x → ⊥
  inside l c x s i h e = ⊎_elim (λ a. omega arith) (λ a. omega arith) (s c i)

  one : (t u : Term) → In R t → In R u → frozen t ≡ frozen u → t ≡ u
  one (constant c) (constant d) i j e = ap constant e
  one (constant c) (shown k) i j e = absurd (inside R c k spare i (omega (arith, small_s k j)) e)
  one (constant c) (hidden k) i j e = absurd (inside R c k spare i (omega (arith, small_h k j)) e)
  one (shown n) (constant d) i j e = absurd (inside R d n spare j (omega (arith, small_s n i)) (sym e))
  one (shown n) (shown k) i j e = ap shown (omega arith)
  one (shown n) (hidden k) (A, a, x) (B, b, y) e =
      let q : n ≡ k = omega arith in absurd (clear n A B a b x (subst (λ (m : ℕ). hidden m ∈ B.columns) (sym q) y))
  one (hidden n) (constant d) i j e = absurd (inside R d n spare j (omega (arith, small_h n i)) (sym e))
  one (hidden n) (shown k) (A, a, x) (B, b, y) e =
      let q : n ≡ k = omega arith in absurd (clear k B A b a y (subst (λ (m : ℕ). hidden m ∈ A.columns) q x))
  one (hidden n) (hidden k) i j e = ap hidden (omega arith)

  no_constant : (t : Term) (c : ℕ) → In R t → In vs (constant c) → frozen t ≡ c → t ≡ constant c
  no_constant (constant d) c i j e = ap constant e
  no_constant (shown n) c i j e = absurd (inside vs c n spare_views j (omega (arith, small_s n i)) (sym e))
  no_constant (hidden n) c i j e = absurd (inside vs c n spare_views j (omega (arith, small_h n i)) (sym e))

  far : (t : Term) (p : ℕ) → In R t → p < columns → frozen t ≡ base + (variables + p) → ⊥
  far (constant c) p i l e = inside R c (64 + p) spare i (omega arith) e
  far (shown n) p i l e = omega (arith, small_s n i)
  far (hidden n) p i l e = omega (arith, small_h n i)

  pub block : Frozen vs R columns
  block =
      record {
        s = λ n. base + n;
        h = λ n. base + n;
        mark = λ p. base + (variables + p);
        one = one;
        clear = no_constant;
        far = far;
        marks = λ p q l m e. omega arith;
      }

  pub block_freezes : (A : Line) → freeze block A ≡ frozen_row base A
  unfolding block
  block_freezes A = refl

  pub block_extra : (A : Line) (extra : Archive) → ExtraRows base vs (frozen_row base A) extra → Extra block A extra
  unfolding block
  block_extra A extra e = e
