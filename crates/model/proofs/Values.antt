-- A value stands for the term, the line and the query of the theory that it holds.
use mathlib.Core.Path.{◌≡◌, refl, sym, ap, ap₂, ◌∙◌, subst}
use mathlib.Core.List.Memᴰ
use mathlib.Core.List.{List, [], ◌∷◌, ◌++◌, map}
use Prim.Native.Nat.{ℕ, zero, suc, ◌-◌, ◌≤◌, ◌<◌}
use native.Mathlib.Omega.{arith}
use lib.ListN.{length, take, get_or, replicate, length-map}
use Rattle.theory.specs.Query.{Tuple, Term, constant, shown, hidden, Line, Query, ◌∈◌, Fits}
use Rattle.theory.proofs.Tuples.{get_d_mem}
use Rattle.model.specs.Value.{pad, unused_term, unused_line, term_value, line_value, query_value}
use Rattle.model.specs.Abstract.{as_term, as_terms, as_line, as_query}
use Rattle.model.specs.Limits.{most_columns, most_lines}
use Rattle.model.proofs.Pad.{pad_take}
use Rattle.model.proofs.Terms.{terms_few}

-- of an array of structs in a value a search finds the length of the list it is mapped from
pub mapped_long : {X Y : Type 0} (f : X → Y) (l : List X) (n : ℕ) → length (map f l) ≡ n → length l ≡ n
mapped_long f l n e = sym (length-map l f) ∙ e

pub as_term_lem : (t : Term) → as_term (term_value t) ≡ t
unfolding as_term term_value
as_term_lem (constant c) = refl
as_term_lem (shown n) = refl
as_term_lem (hidden n) = refl

-- a value stands for one term
pub value_same : (t u : Term) → term_value t ≡ term_value u → t ≡ u
value_same t u e = sym (as_term_lem t) ∙ ap as_term e ∙ as_term_lem u

-- an unused term ends a line
as_unused : (k : ℕ) → as_terms (replicate k unused_term) ≡ []
unfolding as_terms unused_term
as_unused zero = refl
as_unused (suc k) = refl

as_terms_lem : (ts : List Term) (k : ℕ) → as_terms (map term_value ts ++ replicate k unused_term) ≡ ts
unfolding as_terms term_value
as_terms_lem [] k = as_unused k
as_terms_lem (t ∷ ts) k = ap₂ {C = List Term} (λ x l. x ∷ l) (as_term_lem t) (as_terms_lem ts k)

pub as_line_lem : (A : Line) → length A.columns ≤ most_columns → as_line (line_value A) ≡ A
unfolding as_line line_value pad
as_line_lem A h =
    let e : as_terms (line_value A).terms ≡ A.columns
    = ap as_terms (terms_few A.columns h) ∙ as_terms_lem A.columns (most_columns - length (map term_value A.columns)) in
    λ i. record { table = A.table; columns = e i }

as_lines : (Q : Query) → ((A : Line) → A ∈ Q → length A.columns ≤ most_columns) → map as_line (map line_value Q) ≡ Q
as_lines [] h = refl
as_lines (A ∷ Q) h =
    ap₂ {C = Query} (λ B l. B ∷ l) (as_line_lem A (h A (Memᴰ.head refl))) (as_lines Q (λ B i. h B (Memᴰ.tail i)))

pub as_query_lem : (Q : Query) → ((A : Line) → A ∈ Q → length A.columns ≤ most_columns) → as_query (query_value Q) ≡ Q
unfolding as_query query_value
as_query_lem Q h =
    let l = map line_value Q in
    ap (map as_line) (ap (λ (n : ℕ). take n (pad most_lines unused_line l)) (sym (length-map Q line_value)) ∙ pad_take most_lines unused_line l)
    ∙ as_lines Q h

-- what holds of each table's columns holds of those of a line or a row that fits
pub width_is : {X : Type 0} (P : ℕ → Type 0) (widths : List ℕ) → ((w : ℕ) → w ∈ widths → P w) → (A : Tuple X) → Fits widths A
    → P (length A.columns)
width_is P widths h A f =
    let i : A.table - 1 < length widths = omega (arith, f.first, f.last) in
    subst P (sym f.width) (h (get_or widths (A.table - 1) 0) (get_d_mem widths (A.table - 1) 0 i))

-- a line has no more terms than a table may have columns
pub few_terms : (widths : List ℕ) → ((w : ℕ) → w ∈ widths → w ≤ most_columns) → (A : Line) → Fits widths A
    → length A.columns ≤ most_columns
few_terms = width_is (◌≤ most_columns)
