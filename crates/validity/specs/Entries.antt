-- What the check of a view finds on its way: the width of a line, and the numbers of its terms entered under their marks.
use Rattle.std.specs.Prelude.{◌≡◌, ◌↔◌, Bool, true, false, List, ℕ, ◌+◌, ◌-◌, ◌%◌, ◌≤◌, ◌<◌, ltb, get_or, set}
use Rattle.theory.specs.Query.{shown, hidden}
use Rattle.words.specs.Sets.{set_bit}
use Rattle.text.specs.Numeral.{constant_limit}
use Rattle.model.specs.Limits.{most_columns}
use Rattle.model.specs.Marks.{number_within}
use Rattle.model.specs.Value.{unused_term, term_value}
use Rattle.model.specs.declared.Term.{Term}
use Rattle.validity.specs.Parts.{Place, TermPlace}

-- ---- the width of a line

-- one of the tables where a view stands, none behind the last
abbrev pub TablePlace : ℕ → Bool → ℕ → Type 0
TablePlace count = Place (λ table. (1 ≤ table) × (table ≤ count)) 0

-- more columns than any table has
abbrev pub wrong_width : ℕ
wrong_width = most_columns + 1

-- the columns of its table for a view, none behind the last, and too many for a wrong table
pub data WidthFor (count : ℕ) (columns : List ℕ) (table : ℕ) : Bool → ℕ → Type 0 where
  of_view_lem : 1 ≤ table → table ≤ count → WidthFor count columns table true (get_or columns (table - 1) 0)
  of_none : table ≡ 0 → WidthFor count columns table false 0
  of_wrong : {used : Bool} → (TablePlace count used table → ⊥) → WidthFor count columns table used wrong_width

-- ---- the terms of a line

-- that many terms within their limits and unused ones behind them; no variable is both shown and hidden
pub record TermsFor (width : ℕ) (l : List Term) : Type 0 where
  pub places : (k : ℕ) → k < most_columns → TermPlace (ltb k width) (get_or l k unused_term)
  pub clear : (n j k : ℕ) → j < most_columns → k < most_columns → get_or l j unused_term ≡ term_value (shown n)
      → get_or l k unused_term ≡ term_value (hidden n) → ⊥

-- ---- a term

-- unused, constant, shown, hidden
abbrev pub marks : ℕ
marks = 4

-- one of the marks, or none, and a number that a term of that mark may have
pub record Within (t : Term) : Type 0 where
  pub marked : t.mark < marks
  pub most : t.number ≤ constant_limit
  pub small : number_within t.mark t.number ≡ true

-- the words of the marks, with the bit of a used term's number in the word of its mark
unfoldable pub entered : Bool → Term → List ℕ → List ℕ
unfolding set_bit
entered true t by = set by t.mark (set_bit (get_or by t.mark 0) (t.number % 64))
entered false t by = by

-- whether a used term is within its limit, or an unused one all 0; if so, it is entered
pub record Entering (used : Bool) (t : Term) (by by' : List ℕ) (r : Bool) : Type 0 where
  pub right : (r ≡ true) ↔ Place Within unused_term used t
  pub done : r ≡ true → by' ≡ entered used t by
