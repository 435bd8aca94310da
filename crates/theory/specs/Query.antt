-- Document 01, "The texts": terms, lines, queries and views, apart from how they are written.
--
-- A mark is part of its variable: `!1` and `?1` are different terms. A view is a line, and a query a list of lines. Lines
-- and rows are both a table number with something in each column, so they share one shape.
use Rattle.std.specs.Prelude.{◌≡◌, ℕ, ◌≤◌, ◌-◌, length, get_or}
use mathlib.Core.List.{List, [], ◌∷◌, map, Memᴰ}

infix 40 ◌∈◌
-- "A term is a mark and a numeral: `#` a constant, `!` a shown variable, `?` a hidden one."
pub data Term : Type 0 where
  constant : ℕ → Term
  shown : ℕ → Term
  hidden : ℕ → Term
  deriving Discrete as Term_discrete

-- a table number and what stands in the columns
pub record Tuple (X : Type 0) : Type 0 where
  pub table : ℕ
  pub columns : List X

-- the same table, each column changed by f
abbrev pub over : {X Y : Type 0} → (X → Y) → Tuple X → Tuple Y
over f A = record { table = A.table; columns = map f A.columns }

abbrev pub Line : Type 0
Line = Tuple Term

abbrev pub Query : Type 0
Query = List Line

-- x is an element of the list
abbrev pub ◌∈◌ : {X : Type 0} → X → List X → Type 0
x ∈ l = Memᴰ x l

-- the property holds of two lists place by place, and they are equally long
pub data Pointwise {X Y : Type 0} (P : X → Y → Type 0) : List X → List Y → Type 0 where
  ends : Pointwise P [] []
  next : {x : X} {y : Y} {l : List X} {m : List Y} → P x y → Pointwise P l m → Pointwise P (x ∷ l) (y ∷ m)

-- "one variable number both shown and hidden" (6) stands nowhere in the query
abbrev pub NoClash : Query → Type 0
NoClash Q = (n : ℕ) (A B : Line) → A ∈ Q → B ∈ Q → shown n ∈ A.columns → hidden n ∈ B.columns → ⊥

-- Tables are numbered 1, 2, 3 and so on; `widths` lists their numbers of columns. The table is one of these, and the
-- columns are as many as it has.
pub record Fits {X : Type 0} (widths : List ℕ) (A : Tuple X) : Type 0 where
  pub first : 1 ≤ A.table
  pub last : A.table ≤ length widths
  pub width : length A.columns ≡ get_or widths (A.table - 1) 0
