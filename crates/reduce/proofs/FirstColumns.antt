-- The first column of a row that has a term.
use mathlib.Core.Path.{◌≡◌, refl, sym, ◌∙◌}
use mathlib.Core.Bool.{Bool, true, false, false≢true}
use mathlib.Core.List.{List}
use Prim.Native.Nat.{ℕ, zero, suc, ◌+◌, ◌<◌}
use native.Mathlib.Decide.{ℕ_discrete, dec_lt}
use native.Mathlib.Omega.{arith}
use Rattle.words.proofs.Answers.{true_holds, holds_true}
use Rattle.model.specs.Limits.{most_columns}
use Rattle.model.specs.Rows.{laid_term}
use Rattle.model.specs.Value.{same_term}
use Rattle.model.specs.declared.Term.{Term}
use Rattle.model.proofs.Same.{same_term_iff}
use Rattle.reduce.specs.Columns.{FirstColumn}

-- none of the first columns has the term
pub record NoneBefore (rows : List ℕ) (b : ℕ) (t : Term) (q : ℕ) : Type 0 where
  pub none : (p : ℕ) → p < q → laid_term rows b p ≡ t → ⊥

module _ {rows : List ℕ} {b : ℕ} {t : Term} where
  pub none_more : {q : ℕ} {u : Term} (on : Bool) → NoneBefore rows b t q → u ≡ laid_term rows b q → on ≡ same_term t u → on ≡ false
      → NoneBefore rows b t (q + 1)
  none_more {q} {u} on f eu eo fails = record { none = λ p l e. go p l e (ℕ_discrete p q) }
    where
      go : (p : ℕ) → p < q + 1 → laid_term rows b p ≡ t → Dec (p ≡ q) → ⊥
      go p l e (yes x) =
          let s : t ≡ u = sym e ∙ rw x (sym eu) in
          false≢true (sym fails ∙ eo ∙ sym (holds_true (same_term t u) ((same_term_iff t u).1 s)))
      go p l e (no x) = f.none p (omega arith) e

  pub first_found : {q : ℕ} {u : Term} (on : Bool) → q < most_columns → NoneBefore rows b t q → u ≡ laid_term rows b q → on ≡ same_term t u
      → on ≡ true → FirstColumn rows b t q
  first_found {q} {u} on l f eu eo holds = record {
    below = l;
    here = λ p m e. sym eu ∙ sym ((same_term_iff t u).0 (true_holds (sym eo ∙ holds)));
    first = f.none;
  }

  pub found_none : NoneBefore rows b t most_columns → FirstColumn rows b t 0
  found_none f = record { below = omega arith; here = λ p l e. absurd (f.none p l e); first = λ p l e. omega arith }

  -- one column, where some column has the term
  pub first_unique : {p q : ℕ} (k : ℕ) → k < most_columns → laid_term rows b k ≡ t → FirstColumn rows b t p → FirstColumn rows b t q → p ≡ q
  first_unique {p} {q} k l e f g = go (dec_lt p q) (dec_lt q p)
    where
      go : Dec (p < q) → Dec (q < p) → p ≡ q
      go (yes h) d = absurd (g.first p h (f.here k l e))
      go (no n) (yes h) = absurd (f.first q h (g.here k l e))
      go (no n) (no m) = omega arith

  -- a search from column q on
  find_first : (n q : ℕ) → NoneBefore rows b t q → q + n ≡ most_columns → (p : ℕ) × FirstColumn rows b t p
  find_first zero q f e = let l : q ≡ most_columns = omega arith in (0, found_none (rw l at f))
  find_first (suc n) q f e =
      go (same_term t (laid_term rows b q)) refl
      (λ h. find_first n (q + 1) (none_more (same_term t (laid_term rows b q)) f refl refl h) (omega arith))
    where
      go : (on : Bool) → on ≡ same_term t (laid_term rows b q) → (same_term t (laid_term rows b q) ≡ false → (p : ℕ) × FirstColumn rows b t p)
          → (p : ℕ) × FirstColumn rows b t p
      go true h later = (q, first_found true (omega arith) f refl h refl)
      go false h later = later (sym h)

-- there is one
pub first_column : (rows : List ℕ) (b : ℕ) (t : Term) → (q : ℕ) × FirstColumn rows b t q
first_column rows b t = find_first most_columns 0 (record { none = λ p l e. omega arith }) (omega arith)
