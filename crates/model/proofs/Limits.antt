-- What the checks of a line say of it in the theory's terms.
use mathlib.Core.Path.{◌≡◌, refl, sym, subst}
use mathlib.Core.Logic.{◌↔◌, ⊎_elim}
use mathlib.Core.Bool.{Bool, true, false, cond, not, ◌&&◌}
use mathlib.Core.List.Memᴰ
use mathlib.Core.List.{List, [], ◌∷◌, ◌++◌}
use Prim.Native.Nat.{ℕ, suc, ◌≤◌}
use native.Mathlib.Nat.{suc-ne-zero}
use lib.Dec.{T, leb, eqb→eq, leb→le, le→leb, T_not, not_T}
use lib.ListN.{length}
use mir.Facts.{yes_eqb}
use Rattle.theory.specs.Query.{Term, constant, shown, hidden, Line, ◌∈◌, NoClash, Fits}
use Rattle.theory.specs.Executable.Test.{all, any}
use Rattle.theory.proofs.Executable.Test.{and_iff, all_iff, any_iff, same_iff}
use Rattle.model.specs.Limits.{up_to, line_within, term_within, most_tables}
use Rattle.model.specs.Checks.{known, wide, opposite, clashing}

-- a fault of 0 is the fault of no check
pub no_fault : (b : Bool) (n rest : ℕ) → cond b (suc n) rest ≡ 0 → T (not b) × (rest ≡ 0)
no_fault true n rest e = absurd (suc-ne-zero n e)
no_fault false n rest e = (tt, e)

-- the test of a limit is the statement that it is kept
pub up_to_iff : (most n : ℕ) → T (up_to most n) ↔ ((1 ≤ n) × (n ≤ most))
unfolding up_to
up_to_iff most n = (
  λ h. let k = (and_iff (leb 1 n) _).0 h in (leb→le 1 n k.0, leb→le n most k.1),
  λ k. (and_iff (leb 1 n) _).1 (le→leb 1 n k.0, le→leb n most k.1),
)

-- the same of a table's number and of what stands behind it
pub within_iff : {X : Type 0} (f : X → Bool) (table : ℕ) (l : List X)
    → T (up_to most_tables table && all f l) ↔ (((1 ≤ table) × (table ≤ most_tables)) × ((x : X) → x ∈ l → T (f x)))
within_iff f table l =
    let both = and_iff (up_to most_tables table) (all f l) in (
      λ h. ((up_to_iff most_tables table).0 (both.0 h).0, (all_iff f l).0 (both.0 h).1),
      λ k. both.1 ((up_to_iff most_tables table).1 k.0, (all_iff f l).1 k.1),
    )

pub line_within_iff : (A : Line)
    → T (line_within A) ↔ (((1 ≤ A.table) × (A.table ≤ most_tables)) × ((t : Term) → t ∈ A.columns → T (term_within t)))
unfolding line_within
line_within_iff A = within_iff term_within A.table A.columns

-- a line whose numbers are within their limits, whose table is declared and whose terms are as many as its columns fits
pub checked_fits : (widths : List ℕ) (A : Line) → T (line_within A) → T (known widths A) → T (wide widths A) → Fits widths A
unfolding known wide
checked_fits widths A w k d =
    record { first = ((line_within_iff A).0 w).0.0; last = leb→le A.table (length widths) k; width = eqb→eq _ _ d }

-- a term with the other mark in the line or an earlier one is found
clash_found : (earlier : List Line) (A B : Line) (t u : Term) → t ∈ A.columns → B ∈ A ∷ earlier → u ∈ B.columns → T (opposite t u)
    → T (clashing earlier A)
unfolding clashing
clash_found earlier A B t u i b j o =
    (any_iff (λ x. any (λ C. any (opposite x) C.columns) (A ∷ earlier)) A.columns).1
    (t, i, (any_iff (λ C. any (opposite t) C.columns) (A ∷ earlier)).1 (B, b, (any_iff (opposite t) B.columns).1 (u, j, o)))

-- lines without a clash stay so with one more that does not clash with them
pub clear_more : (earlier : List Line) (A : Line) → NoClash earlier → T (not (clashing earlier A)) → NoClash (earlier ++ A ∷ [])
unfolding opposite
clear_more earlier A clear h n B C b c i j =
    ⊎_elim
    (λ x. ⊎_elim (λ y. clear n B C x y i j)
    (λ y. let e = Memᴰ.eq_of_singleton y in
    T_not (clashing earlier A) h
    (clash_found earlier A B (hidden n) (shown n) (subst (λ (D : Line). hidden n ∈ D.columns) e j) (Memᴰ.tail x) i
    ((same_iff (shown n) (shown n)).1 refl)))
    (Memᴰ.append_cases earlier c))
    (λ x. let e = Memᴰ.eq_of_singleton x in
    T_not (clashing earlier A) h
    (clash_found earlier A C (shown n) (hidden n) (subst (λ (D : Line). shown n ∈ D.columns) e i)
    (⊎_elim (λ y. Memᴰ.tail y) (λ y. Memᴰ.head (Memᴰ.eq_of_singleton y)) (Memᴰ.append_cases earlier c)) j
    ((same_iff (hidden n) (hidden n)).1 refl)))
    (Memᴰ.append_cases earlier b)

-- terms of lines without a clash are not one variable number shown and hidden
not_opposite : (Q : List Line) (A B : Line) (t u : Term) → NoClash Q → A ∈ Q → B ∈ Q → t ∈ A.columns → u ∈ B.columns
    → T (opposite t u) → ⊥
unfolding opposite
not_opposite Q A B (constant c) u clear a b i j o = o
not_opposite Q A B (shown n) u clear a b i j o =
    clear n A B a b i (subst (λ (x : Term). x ∈ B.columns) ((same_iff u (hidden n)).0 o) j)
not_opposite Q A B (hidden n) u clear a b i j o =
    clear n B A b a (subst (λ (x : Term). x ∈ B.columns) ((same_iff u (shown n)).0 o) j) i

-- among lines without a clash none clashes with others of them
pub clear_line : (Q earlier : List Line) (A : Line) → NoClash Q → A ∈ Q → ((B : Line) → B ∈ earlier → B ∈ Q)
    → T (not (clashing earlier A))
unfolding clashing
clear_line Q earlier A clear a others = not_T (clashing earlier A) found
  where
    there : (B : Line) → B ∈ A ∷ earlier → B ∈ Q
    there B b = ⊎_elim (λ e. subst (λ (C : Line). C ∈ Q) (sym e) a) (others B) (Memᴰ.cases_cons b)

    found : T (clashing earlier A) → ⊥
    found h =
        let (t, i, r) = (any_iff (λ x. any (λ C. any (opposite x) C.columns) (A ∷ earlier)) A.columns).0 h in
        let (B, b, s) = (any_iff (λ C. any (opposite t) C.columns) (A ∷ earlier)).0 r in
        let (u, j, o) = (any_iff (opposite t) B.columns).0 s in
        not_opposite Q A B t u clear a (there B b) i j o

-- a line by itself
pub clear_alone : (A : Line) → T (not (clashing [] A)) ↔ NoClash (A ∷ [])
clear_alone A = (
  λ h. clear_more [] A (λ n B C b. absurd (Memᴰ.not-nil b)) h,
  λ clear. clear_line (A ∷ []) [] A clear (Memᴰ.head refl) (λ B b. absurd (Memᴰ.not-nil b)),
)

-- what fits passes the checks 4 and 5
pub fits_checked : (widths : List ℕ) (A : Line) → Fits widths A → T (known widths A) × T (wide widths A)
unfolding known wide
fits_checked widths A f = (le→leb A.table (length widths) f.last, yes_eqb f.width)
