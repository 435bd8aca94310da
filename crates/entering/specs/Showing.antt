-- Showing by the values of lines, hidden variables as the bits of a word.
use Rattle.std.specs.Prelude.{◌≡◌, ◌↔◌, Bool, cond, ◌&&◌, List, map, ℕ, ◌≤◌, ◌<◌, length, T, eqb, leb}
use Rattle.theory.specs.Query.{hidden, Query, ◌∈◌}
use Rattle.theory.specs.Query.{Line as TheLine}
use Rattle.theory.specs.Executable.Show.{shared}
use Rattle.words.specs.Bits.{bit, is_set}
use Rattle.model.specs.Limits.{most_columns, last_variable}
use Rattle.model.specs.Rows.{laid_table, laid_term}
use Rattle.model.specs.declared.Term.{Term}
use Rattle.model.specs.declared.Line.{Line}

-- "variables 0 to 63": the hidden ones of a line, and of the query
abbrev pub SmallLine : TheLine → Type 0
SmallLine A = (n : ℕ) → hidden n ∈ A.columns → n ≤ last_variable

abbrev pub Small : Query → Type 0
Small Q = (n : ℕ) (A : TheLine) → A ∈ Q → hidden n ∈ A.columns → n ≤ last_variable

-- a hidden variable whose number has a bit
unfoldable pub hidden_term : Term → Bool
hidden_term t = eqb t.mark 3 && leb t.number last_variable

-- w has the shared variables
abbrev pub SharedWord : Query → ℕ → Type 0
SharedWord Q w = (n : ℕ) → n ≤ last_variable → (bit w n ≡ 1) ↔ T (shared Q n)

unfoldable pub show_value : ℕ → Term → Term
unfolding hidden_term
show_value w t = cond (hidden_term t && is_set w t.number) (record { mark = 2; number = t.number }) t

unfoldable pub show_line : ℕ → Line → Line
unfolding show_value
show_line w l = record { table = l.table; terms = map (show_value w) l.terms }

-- showing alters the marks of the shared variables in the first n rows, and nothing else
pub record ShownRows (n : ℕ) (rows : List ℕ) (w : ℕ) (rows' : List ℕ) : Type 0 where
  pub long : length rows' ≡ length rows
  pub table : (i : ℕ) → laid_table rows' i ≡ laid_table rows i
  pub term : (i p : ℕ) → i < n → p < most_columns → laid_term rows' i p ≡ show_value w (laid_term rows i p)
  pub rest : (i p : ℕ) → n ≤ i → p < most_columns → laid_term rows' i p ≡ laid_term rows i p
