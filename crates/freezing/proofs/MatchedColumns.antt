-- A view beside a row, column by column: its constants stand in the row, and each cell is that of the first column with the same term.
use mathlib.Core.Path.{◌≡◌, refl, sym, ap, ◌∙◌}
use mathlib.Core.Logic.{⊎_elim}
use mathlib.Core.Bool.{true, false, false≢true}
use mathlib.Core.List.{List}
use Prim.Native.Nat.{ℕ, ◌+◌, ◌<◌}
use native.Mathlib.Decide.{dec_lt}
use native.Mathlib.Omega.{arith}
use lib.ListN.{length, get_or}
use Rattle.theory.specs.Query.{Line}
use Rattle.theory.specs.Archive.{Row}
use Rattle.theory.specs.Cover.{at}
use Rattle.theory.proofs.Match.{Matches, matches, matchable}
use Rattle.model.specs.Limits.{most_columns}
use Rattle.model.specs.Value.{term_value}
use Rattle.model.specs.Rows.{laid_term}
use Rattle.model.specs.declared.Term.{Term as TermValue}
use Rattle.model.proofs.Same.{same_term_iff}
use Rattle.model.proofs.Values.{value_same}
use Rattle.model.proofs.LineValues.{same_unused}
use Rattle.freezing.specs.Rows.{FirstAlike, Beside, MatchGiven}
use Rattle.freezing.proofs.TermMarks.{unused_mark, constant_mark, constant_number, marked_constant}
use Rattle.freezing.proofs.ViewBeside.{view_used, view_column, cell_is, nothing_there}

-- ---- one column

-- column p of the view allows its cell
pub record Allowed (views : List ℕ) (k : ℕ) (cells : List ℕ) (p : ℕ) : Type 0 where
  pub constants : (laid_term views k p).mark ≡ 1 → (laid_term views k p).number ≡ get_or cells (1 + p) 0
  pub first : ℕ
  pub alike : FirstAlike views k p first
  pub equals : get_or cells (1 + first) 0 ≡ get_or cells (1 + p) 0

-- columns with one term have one first column
alike_one : {views : List ℕ} {k p q f g : ℕ} → laid_term views k p ≡ laid_term views k q → FirstAlike views k p f → FirstAlike views k q g
    → f ≡ g
alike_one {f = f} {g} e a b = go (dec_lt f g) (dec_lt g f)
  where
    go : Dec (f < g) → Dec (g < f) → f ≡ g
    go (yes l) d = absurd (b.least f l (a.same ∙ e))
    go (no n) (yes l) = absurd (a.least g l (b.same ∙ sym e))
    go (no n) (no m) = omega arith

-- ---- a view and a row

module _ {views : List ℕ} {k : ℕ} {cells : List ℕ} (v : Line) (r : Row) (beside : Beside views k v cells r) where
  all_match : ((p : ℕ) → p < most_columns → Allowed views k cells p) → Matches v r
  all_match f =
      let inside : (p : ℕ) → p < length v.columns → p < most_columns = λ p l. omega (arith, beside.columns, l) in
      matches v r
      (record {
        table = beside.table;
        width = beside.width;
        constants = λ p c l e.
            let is = view_used v r beside p l ∙ ap term_value e in
            sym (cell_is v r beside p)
            ∙ sym ((f p (inside p l)).constants (ap (λ (t : TermValue). t.mark) is ∙ constant_mark c))
            ∙ ap (λ (t : TermValue). t.number) is ∙ constant_number c;
        equals = λ p q l m e.
            let a = f p (inside p l) in
            let b = f q (inside q m) in
            let same = view_used v r beside p l ∙ ap term_value e ∙ sym (view_used v r beside q m) in
            sym (cell_is v r beside p) ∙ sym a.equals
            ∙ ap (λ (i : ℕ). get_or cells (1 + i) 0) (alike_one same a.alike b.alike)
            ∙ b.equals ∙ cell_is v r beside q;
      })

  module _ (m : Matches v r) (p : ℕ) (b : p < most_columns) where
    -- the view's constant stands in the row
    pub match_constant : (laid_term views k p).mark ≡ 1 → (laid_term views k p).number ≡ get_or cells (1 + p) 0
    match_constant e =
        ⊎_elim
        (λ w. let c = marked_constant (at v p) (sym (ap (λ (t : TermValue). t.mark) w.1) ∙ e) in
        ap (λ (t : TermValue). t.number) w.1 ∙ sym ((matchable v r m).constants p _ w.0 c) ∙ sym (cell_is v r beside p))
        (λ w. absurd (omega (arith, unused_mark, e, ap (λ (t : TermValue). t.mark) w.1)))
        (view_column v r beside p b)

    -- the cells of a column and of the first that is like it are the same
    pub match_equal : {q : ℕ} → FirstAlike views k p q → get_or cells (1 + q) 0 ≡ get_or cells (1 + p) 0
    match_equal {q} a =
        cell_is v r beside q
        ∙ ⊎_elim
        (λ w. let l : q < length v.columns = omega (arith, a.upto, w.0) in
        (matchable v r m).equals q p l w.0
        (value_same (at v q) (at v p) (sym (view_used v r beside q l) ∙ a.same ∙ w.1)))
        (λ w. ⊎_elim (λ u. absurd (same_unused (at v q) ((same_term_iff _ _).1 (sym u.1 ∙ a.same ∙ w.1))))
        (λ u. nothing_there v r beside q u.0 ∙ sym (nothing_there v r beside p w.0))
        (view_column v r beside q (omega (arith, a.upto, b))))
        (view_column v r beside p b)
        ∙ sym (cell_is v r beside p)

-- ---- the answer

module _ {views : List ℕ} {k : ℕ} {cells : List ℕ} where
  pub is_matched : ((p : ℕ) → p < most_columns → Allowed views k cells p) → MatchGiven views k cells true
  is_matched f v r beside = record { matches = λ e. all_match v r beside f; said = λ m. refl }

  pub not_matched : ((v : Line) (r : Row) → Beside views k v cells r → Matches v r → ⊥) → MatchGiven views k cells false
  not_matched f v r beside = record { matches = λ e. absurd (false≢true e); said = λ m. absurd (f v r beside m) }
