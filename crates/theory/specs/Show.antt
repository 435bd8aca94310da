-- Document 01, "Showing".
use Rattle.std.specs.Prelude.{◌≡◌, ◌⊎◌, ◌≢◌, ℕ}
use Rattle.std.proofs.Math.Option.{some}
use Rattle.std.proofs.Math.ListN.{get_elem?}
use Rattle.theory.specs.Query.{Term, constant, shown, hidden, Line, Query, ◌∈◌, Pointwise}

-- "a hidden variable that stands in two lines or more": in the lines at two places
pub record Shared (R : Query) (n : ℕ) : Type 0 where
  pub i : ℕ
  pub j : ℕ
  pub apart : i ≢ j
  pub A : Line
  pub B : Line
  pub A_at : get_elem? R i ≡ some A
  pub B_at : get_elem? R j ≡ some B
  pub in_A : hidden n ∈ A.columns
  pub in_B : hidden n ∈ B.columns

-- "becomes shown in each": u is what the term t of R becomes
abbrev pub Shows : Query → Term → Term → Type 0
Shows R (constant c) u = u ≡ constant c
Shows R (shown n) u = u ≡ shown n
Shows R (hidden n) u = (Shared R n × (u ≡ shown n)) ⊎ ((Shared R n → ⊥) × (u ≡ hidden n))

-- "shared variables are shown": S is R with each term as it becomes, place by place
abbrev pub Shown : Query → Query → Type 0
Shown R S = Pointwise (λ A B. (B.table ≡ A.table) × Pointwise (Shows R) A.columns B.columns) R S
