-- What turns a line back, by the checks on the way, from the value that reading a line gives.
use mathlib.Core.Path.{◌≡◌, refl, sym, ap, ◌∙◌}
use mathlib.Core.Bool.{Bool, true, false, cond, not, false≢true}
use mathlib.Core.List.{List}
use mathlib.Core.Option.{Option, none, some}
use Prim.Native.Nat.{ℕ, ◌≤◌, ◌<◌}
use native.Mathlib.Omega.{arith}
use lib.ListN.{length}
use borrow.Author.Tests.{le-leb, lt-leb, not-true, not-false}
use Rattle.theory.specs.Query.{Line}
use Rattle.words.proofs.Answers.{true_holds}
use Rattle.model.specs.Limits.{most_lines, line_within}
use Rattle.model.specs.Checks.{first_fault, misfit}
use Rattle.model.specs.Parsed.{blank_value, good_value, parsed_line}
use Rattle.model.specs.declared.Parsed.{Parsed}
use Rattle.model.proofs.Limits.{line_within_iff}
use Rattle.query_text.specs.Text.{fault}
use Rattle.query_text.specs.Value.{LineTabled}

-- ---- the value of a line

module _ (p : Parsed) (o : Option Line) (e : p ≡ parsed_line o) where
  pub well_formed : p.ok ≡ true → (A : Line) × (o ≡ some A)
  unfolding parsed_line blank_value
  well_formed k = go o (sym (ap (λ (x : Parsed). x.ok) e) ∙ k)
    where
      go : (o : Option Line) → (parsed_line o).ok ≡ true → (A : Line) × (o ≡ some A)
      go none h = absurd (false≢true h)
      go (some A) h = (A, refl)

  pub malformed : p.ok ≡ false → o ≡ none
  unfolding parsed_line blank_value good_value
  malformed k = go o (sym (ap (λ (x : Parsed). x.ok) e) ∙ k)
    where
      by_limits : (A : Line) (b : Bool) → (cond b (good_value A.table A.columns) (blank_value true true)).ok ≡ false → ⊥
      by_limits A true h = false≢true (sym h)
      by_limits A false h = false≢true (sym h)

      go : (o : Option Line) → (parsed_line o).ok ≡ false → o ≡ none
      go none h = refl
      go (some A) h = absurd (by_limits A (line_within A) h)

module _ (p : Parsed) (A : Line) (e : p ≡ parsed_line (some A)) where
  -- the value says whether a number is past its limit
  outside_is : p.outside ≡ not (line_within A)
  unfolding parsed_line blank_value good_value
  outside_is = ap (λ (x : Parsed). x.outside) e ∙ go (line_within A)
    where
      go : (b : Bool) → (cond b (good_value A.table A.columns) (blank_value true true)).outside ≡ not b
      go true = refl
      go false = refl

  pub is_outside : p.outside ≡ true → line_within A ≡ false
  is_outside o = not-true (line_within A) (sym outside_is ∙ o)

  pub is_within : p.outside ≡ false → line_within A ≡ true
  is_within o = not-false (line_within A) (sym outside_is ∙ o)

  pub is_good : p.outside ≡ false → p ≡ good_value A.table A.columns
  unfolding parsed_line
  is_good o = e ∙ ap (λ (b : Bool). cond b (good_value A.table A.columns) (blank_value true true)) (is_within o)

  pub is_tabled : LineTabled p
  unfolding good_value
  is_tabled o = rw (is_good o) ((line_within_iff A).0 (true_holds (is_within o))).0

-- ---- the checks in their order

module _ (widths : List ℕ) (earlier : List Line) (A : Line) (count : ℕ) (p : Parsed) (counted : count ≡ length earlier)
    (read : p ≡ parsed_line (some A)) where
  pub ninth : most_lines ≤ count → 7 ≡ fault widths earlier A
  unfolding fault first_fault
  ninth l = rw (le-leb most_lines (length earlier) (omega arith))

  module _ (few : count < most_lines) where
    pub past_limit : p.outside ≡ true → 2 ≡ fault widths earlier A
    unfolding fault first_fault
    past_limit o = rw (lt-leb most_lines (length earlier) (omega arith), is_outside p A read o)

    -- what is left are the checks against the tables and the lines before it
    pub checked : p.outside ≡ false → misfit widths earlier A ≡ fault widths earlier A
    unfolding fault first_fault misfit
    checked o = rw (lt-leb most_lines (length earlier) (omega arith), is_within p A read o)
