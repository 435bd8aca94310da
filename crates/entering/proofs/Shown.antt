-- The values of shown terms and lines. Whatever the word, a shown line's value is the value of a line; with the word of a
-- query's shared variables it is that of the line that the theory shows.
use mathlib.Core.Path.{◌≡◌, refl, ap, subst, ◌∙◌}
use mathlib.Core.Bool.{Bool, true, false, cond, ◌&&◌, and-false}
use mathlib.Core.List.{List, map, map-map}
use Prim.Native.Nat.{ℕ, ◌≤◌}
use native.Mathlib.Omega.{arith}
use lib.Dec.{leb}
use lib.ListN.{length, length-map}
use mir.Facts.{eqb_yes, yes_eqb}
use borrow.Author.Tests.{le-leb}
use Rattle.theory.specs.Query.{constant, shown, hidden, over, Query, ◌∈◌}
use Rattle.theory.specs.Query.{Term as TheTerm, Line as TheLine}
use Rattle.theory.specs.Executable.Test.{kind, number}
use Rattle.theory.specs.Executable.Show.{shared, show_term}
use Rattle.theory.proofs.Tuples.{map_same, over_same}
use Rattle.theory.proofs.Executable.Test.{same_test}
use Rattle.words.specs.Bits.{is_set}
use Rattle.words.proofs.Bits.{is_clear, bit_zero}
use Rattle.model.specs.Limits.{most_columns, last_variable}
use Rattle.model.specs.Value.{pad, unused_term, term_value, terms_value, line_value}
use Rattle.model.specs.declared.Term.{Term}
use Rattle.model.proofs.Pad.{map_pad}
use Rattle.model.proofs.Terms.{terms_few}
use Rattle.entering.specs.Showing.{Small, hidden_term, SharedWord, show_value, show_line}

-- ---- no variable is shared

pub none_shown : (t : Term) → show_value 0 t ≡ t
unfolding show_value
none_shown t = rw (is_clear 0 t.number (bit_zero t.number), and-false (hidden_term t))

-- ---- any word

-- the term that the value of a shown term stands for
unfoldable pub shown_by : ℕ → TheTerm → TheTerm
shown_by w (constant c) = constant c
shown_by w (shown n) = shown n
shown_by w (hidden n) = cond (leb n last_variable && is_set w n) (shown n) (hidden n)

module _ (w : ℕ) where
  unused_shown : show_value w unused_term ≡ unused_term
  unfolding show_value hidden_term unused_term
  unused_shown = refl

  hidden_value : (b : Bool) (n : ℕ)
      → cond b (record { mark = 2; number = n }) (term_value (hidden n)) ≡ term_value (cond b (shown n) (hidden n))
  unfolding term_value kind number
  hidden_value true n = refl
  hidden_value false n = refl

  term_value_lem : (u : TheTerm) → show_value w (term_value u) ≡ term_value (shown_by w u)
  unfolding show_value hidden_term term_value kind number shown_by
  term_value_lem (constant c) = refl
  term_value_lem (shown n) = refl
  term_value_lem (hidden n) = hidden_value (leb n last_variable && is_set w n) n

  terms_value_lem : (ts : List TheTerm) → length ts ≤ most_columns → map (show_value w) (terms_value ts) ≡ terms_value (map (shown_by w) ts)
  terms_value_lem ts few =
      let short : length (map (shown_by w) ts) ≤ most_columns = rw (length-map ts (shown_by w)) few in
      let behind = map_pad (show_value w) most_columns unused_term (map term_value ts) unused_shown in
      rw (terms_few ts few, terms_few (map (shown_by w) ts) short, behind, map-map (show_value w) term_value ts)
      (rw (map-map term_value (shown_by w) ts)
      (ap (pad most_columns unused_term) (map_same (λ t. show_value w (term_value t)) (λ t. term_value (shown_by w t)) ts (λ t j. term_value_lem t))))

  pub line_value_lem : (A : TheLine) → length A.columns ≤ most_columns → show_line w (line_value A) ≡ line_value (over (shown_by w) A)
  unfolding show_line line_value
  line_value_lem A few = λ k. record { table = A.table; terms = terms_value_lem A.columns few k }

-- ---- the word of the shared variables

module _ (R : Query) (w : ℕ) (word : SharedWord R w) where
  set_shared : (n : ℕ) → n ≤ last_variable → is_set w n ≡ shared R n
  set_shared n l = same_test (is_set w n) (shared R n) (λ h. (word n l).0 (eqb_yes h)) (λ h. yes_eqb ((word n l).1 h))

  shown_same : (u : TheTerm) → ((n : ℕ) → u ≡ hidden n → n ≤ last_variable) → shown_by w u ≡ show_term R u
  unfolding shown_by show_term
  shown_same (constant c) small = refl
  shown_same (shown n) small = refl
  shown_same (hidden n) small = rw (le-leb n last_variable (omega (arith, small n refl)), set_shared n (small n refl))

  -- a line of the query, shown by the word
  pub line_same : Small R → (A : TheLine) → A ∈ R → over (shown_by w) A ≡ over (show_term R) A
  line_same small A i =
      over_same (shown_by w) (show_term R) A
      (λ t j. shown_same t (λ n e. small n A i (subst (λ (u : TheTerm). u ∈ A.columns) e j)))

  pub line_shown : ((A : TheLine) → A ∈ R → length A.columns ≤ most_columns) → Small R → (A : TheLine) → A ∈ R
      → show_line w (line_value A) ≡ line_value (over (show_term R) A)
  line_shown few small A i = line_value_lem w A (few A i) ∙ ap line_value (line_same small A i)
