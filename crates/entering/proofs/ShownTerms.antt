-- The terms of a query's rows shown, pair of row and column by pair: showing keeps a term's number.
use mathlib.Core.Path.{◌≡◌, refl, sym, ap, ◌∙◌}
use mathlib.Core.Bool.{Bool, true, false, cond, ◌&&◌}
use mathlib.Core.List.{List, map}
use Prim.Native.Nat.{ℕ, ◌+◌, ◌*◌, ◌≤◌, ◌<◌}
use native.Mathlib.Decide.{ℕ_discrete, dec_lt}
use native.Mathlib.Omega.{arith}
use lib.ListN.{length, set, length-set, length-map}
use lib.Seq.{get_or-set_same, get_or-set_other}
use Rattle.words.specs.Bits.{is_set}
use Rattle.theory.specs.Query.{Line as TheLine}
use Rattle.theory.proofs.Tuples.{get_d_map}
use Rattle.model.specs.Limits.{most_columns}
use Rattle.model.specs.Rows.{row_long, mark_place, term_at, laid_table, laid_term}
use Rattle.model.specs.Value.{unused_term, term_value, terms_value, line_value}
use Rattle.model.proofs.LaidTerms.{same_term_lem}
use Rattle.model.proofs.Pad.{pad_length}
use Rattle.model.proofs.Terms.{terms_few}
use Rattle.model.specs.declared.Term.{Term}
use Rattle.entering.specs.Showing.{hidden_term, show_value, show_line, ShownRows}
use Rattle.entering.proofs.Shown.{none_shown}

same_number : (w : ℕ) (t : Term) → (show_value w t).number ≡ t.number
unfolding show_value
same_number w t = go (hidden_term t && is_set w t.number)
  where
    go : (b : Bool) → (cond b (record { mark = 2; number = t.number }) t).number ≡ t.number
    go true = refl
    go false = refl

-- no mark stands where a table does
no_table_lem : (a b r : ℕ) → r < most_columns → a * row_long ≡ mark_place b r → ⊥
no_table_lem a b r h e = go (dec_lt b a)
  where
    go : Dec (b < a) → ⊥
    go (yes l) = omega arith
    go (no n) = omega arith

-- the terms of the rows before i are shown, and of row i those before column p
pub record ShownTo (i p : ℕ) (rows : List ℕ) (w : ℕ) (rows' : List ℕ) : Type 0 where
  pub long : length rows' ≡ length rows
  pub table : (j : ℕ) → laid_table rows' j ≡ laid_table rows j
  pub done : (j q : ℕ) → q < most_columns → j * most_columns + q < i * most_columns + p
      → laid_term rows' j q ≡ show_value w (laid_term rows j q)
  pub rest : (j q : ℕ) → q < most_columns → i * most_columns + p ≤ j * most_columns + q → laid_term rows' j q ≡ laid_term rows j q

module _ (rows : List ℕ) (i p m : ℕ) where
  -- a mark set leaves the other terms
  other_term : p < most_columns → (j q : ℕ) → q < most_columns → (j * most_columns + q ≡ i * most_columns + p → ⊥)
      → laid_term (set rows (mark_place i p) m) j q ≡ laid_term rows j q
  other_term b j q c f =
      same_term_lem rows (set rows (mark_place i p) m) j q
      (get_or-set_other rows (mark_place i p) (mark_place j q) m 0 (λ x. f (omega arith)))
      (get_or-set_other rows (mark_place i p) (mark_place j q + 1) m 0 (λ x. omega arith))

  this_term : mark_place i p < length rows → laid_term (set rows (mark_place i p) m) i p ≡ record { mark = m; number = (laid_term rows i p).number }
  unfolding laid_term
  this_term h =
      let at = mark_place i p in
      λ x. record { mark = get_or-set_same rows at m 0 h x; number = get_or-set_other rows at (at + 1) m 0 (λ y. omega arith) x }

pub one_done : {i p : ℕ} {rows : List ℕ} {w : ℕ} {rows' : List ℕ} (u : Term) → ShownTo i p rows w rows' → p < most_columns
    → mark_place i p < length rows → u ≡ show_value w (laid_term rows' i p) → ShownTo i (p + 1) rows w (set rows' (mark_place i p) u.mark)
one_done {i} {p} {rows} {w} {rows'} u s b h e = record {
  long = length-set rows' at u.mark ∙ s.long;
  table = λ j. get_or-set_other rows' at (j * row_long) u.mark 0 (no_table_lem j i p b) ∙ s.table j;
  done = λ j q c l. go j q c l (ℕ_discrete (j * most_columns + q) (i * most_columns + p));
  rest = λ j q c l. other_term rows' i p u.mark b j q c (λ x. omega arith) ∙ s.rest j q c (omega arith);
}
  where
    at : ℕ
    at = mark_place i p

    same : laid_term rows' i p ≡ laid_term rows i p
    same = s.rest i p b (omega arith)

    shown : u ≡ show_value w (laid_term rows i p)
    shown = e ∙ ap (show_value w) same

    here : laid_term (set rows' at u.mark) i p ≡ show_value w (laid_term rows i p)
    here =
        this_term rows' i p u.mark (omega (arith, h, s.long))
        ∙ (λ x. record {
          mark = (shown x).mark;
          number = (ap (λ (t : Term). t.number) same ∙ sym (same_number w (laid_term rows i p))) x;
        })

    go : (j q : ℕ) → q < most_columns → j * most_columns + q < i * most_columns + (p + 1) → Dec (j * most_columns + q ≡ i * most_columns + p)
        → laid_term (set rows' at u.mark) j q ≡ show_value w (laid_term rows j q)
    go j q c l (yes x) = let e₁ : j ≡ i = omega arith in let e₂ : q ≡ p = omega arith in rw (e₁, e₂) here
    go j q c l (no f) = other_term rows' i p u.mark b j q c f ∙ s.done j q c (omega arith)

pub none_shared : (n : ℕ) (rows : List ℕ) → ShownRows n rows 0 rows
none_shared n rows = record {
  long = refl;
  table = λ i. refl;
  term = λ i p h b. sym (none_shown (laid_term rows i p));
  rest = λ i p h b. refl;
}

-- ---- a line shown

-- showing a line shows each of its terms
pub shown_term : (w : ℕ) (A : TheLine) → length A.columns ≤ most_columns → (p : ℕ) → p < most_columns
    → term_at (show_line w (line_value A)) p ≡ show_value w (term_at (line_value A) p)
unfolding term_at show_line line_value
shown_term w A few p h =
    let ts = map term_value A.columns in
    let long = pad_length most_columns unused_term ts (rw (length-map A.columns term_value) few) in
    get_d_map (show_value w) (terms_value A.columns) p unused_term unused_term (rw (terms_few A.columns few, long) h)
