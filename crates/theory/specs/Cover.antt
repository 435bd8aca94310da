-- Document 01, "Covering".
use Rattle.std.specs.Prelude.{◌≡◌, List, [], ◌∷◌, ◌↔◌, ℕ, ◌<◌, length, get_or}
use Rattle.theory.specs.Query.{Term, constant, shown, hidden, over, Line, ◌∈◌}
use Rattle.theory.specs.Archive.{Archive, AllFit, Answer}

-- the term at a column, counted from 0
abbrev pub at : Line → ℕ → Term
at A p = get_or A.columns p (constant 0)

abbrev pub IsVariable : Term → Type 0
IsVariable (constant c) = ⊥
IsVariable (shown n) = Unit {0}
IsVariable (hidden n) = Unit {0}

abbrev pub IsHidden : Term → Type 0
IsHidden (constant c) = ⊥
IsHidden (shown n) = ⊥
IsHidden (hidden n) = Unit {0}

-- The three rules at columns p and q, where the view has v and v' and the line a and a'.
pub record Rules (v v' a a' : Term) : Type 0 where
  -- "1. V has a constant at p: A has that constant there."
  pub constants : (c : ℕ) → v ≡ constant c → a ≡ constant c
  -- "2. V has equal variables at p and q: A has equal terms there."
  pub equals : IsVariable v → v ≡ v' → a ≡ a'
  -- "3. V has a hidden variable at p: A has a hidden variable there,
  pub hides : IsHidden v → IsHidden a
  -- and A's equal terms stand only where V has that same hidden variable."
  pub only : IsHidden v → a ≡ a' → v ≡ v'

-- "View V covers line A of the same table when, for all columns p and q: …"
pub record Covers (v A : Line) : Type 0 where
  pub table : v.table ≡ A.table
  pub width : length v.columns ≡ length A.columns
  pub rules : (p q : ℕ) → p < length v.columns → q < length v.columns → Rules (at v p) (at v q) (at A p) (at A q)

-- "some choice of constants and of shown or hidden variables for V's shown variables": σ is the choice
abbrev pub choose : (σ : ℕ → Term) → Term → Term
choose σ (constant c) = constant c
choose σ (shown n) = σ n
choose σ (hidden n) = hidden n

-- "none of them a hidden variable of V, turns V into a query with A's answers on every archive"
pub record Rewrites (widths : List ℕ) (v A : Line) : Type 0 where
  pub σ : ℕ → Term
  pub clear : (n k : ℕ) → shown n ∈ v.columns → hidden k ∈ v.columns → σ n ≡ hidden k → ⊥
  pub same : (D : Archive) → AllFit widths D → (s : ℕ → ℕ) → Answer (over (choose σ) v ∷ []) D s ↔ Answer (A ∷ []) D s
