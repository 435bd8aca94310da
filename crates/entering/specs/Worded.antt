-- Three words for each line of a query, which say where its hidden variables stand, and what reducing is given.
use Rattle.std.specs.Prelude.{◌≡◌, ◌↔◌, List, ℕ, ◌+◌, ◌*◌, ◌≤◌, ◌<◌, length, get_or}
use Rattle.theory.specs.Query.{hidden, Query, ◌∈◌}
use Rattle.theory.specs.Query.{Line as TheLine}
use Rattle.theory.specs.Cover.{at}
use Rattle.words.specs.Bits.{bit}
use Rattle.model.specs.Limits.{most_lines, most_columns}
use Rattle.model.specs.Value.{line_value}
use Rattle.model.specs.Rows.{LaidAt}
use Rattle.entering.specs.Agree.{line_at}
use Rattle.entering.specs.Laid.{Laid}
use Rattle.entering.specs.Showing.{Small, SmallLine}

abbrev pub line_words : ℕ
line_words = 3

-- three words for each line
abbrev pub query_words_long : ℕ
query_words_long = most_lines * line_words

-- the columns of line i that have a hidden variable, its hidden variables, and those that stand in two columns
abbrev pub columns_word : List ℕ → ℕ → ℕ
columns_word words i = get_or words (i * line_words) 0

abbrev pub hidden_word : List ℕ → ℕ → ℕ
hidden_word words i = get_or words (i * line_words + 1) 0

abbrev pub twice_word : List ℕ → ℕ → ℕ
twice_word words i = get_or words (i * line_words + 2) 0

-- column p has the hidden variable n
pub record HiddenAt (A : TheLine) (n p : ℕ) : Type 0 where
  pub there : p < length A.columns
  pub is : at A p ≡ hidden n

-- two columns have it
pub record Repeats (A : TheLine) (n : ℕ) : Type 0 where
  pub first : ℕ
  pub second : ℕ
  pub apart : first < second
  pub one : HiddenAt A n first
  pub other : HiddenAt A n second

-- the three words of line i are those of the line
pub record LineWorded (A : TheLine) (words : List ℕ) (i : ℕ) : Type 0 where
  pub columns : (p : ℕ) → (bit (columns_word words i) p ≡ 1) ↔ ((n : ℕ) × HiddenAt A n p)
  pub variables : (n : ℕ) → (bit (hidden_word words i) n ≡ 1) ↔ ((p : ℕ) × HiddenAt A n p)
  pub twice : (n : ℕ) → (bit (twice_word words i) n ≡ 1) ↔ Repeats A n

-- the words of the line in row i entered; those of other lines stay
pub record LineEntered (rows : List ℕ) (i : ℕ) (before after : List ℕ) : Type 0 where
  pub long : length after ≡ length before
  pub others : (j : ℕ) → j < i * line_words → get_or after j 0 ≡ get_or before j 0
  pub line : (A : TheLine) → LaidAt rows i (line_value A) → length A.columns ≤ most_columns → SmallLine A → LineWorded A after i

pub record Worded (Q : Query) (words : List ℕ) : Type 0 where
  pub long : length words ≡ query_words_long
  pub line : (i : ℕ) → i < length Q → LineWorded (line_at Q i) words i

-- lines of one table have as many columns: "5: terms fewer or more than the columns" has turned back any other query
abbrev pub OneWidth : Query → Type 0
OneWidth Q = (A B : TheLine) → A ∈ Q → B ∈ Q → A.table ≡ B.table → length A.columns ≡ length B.columns

-- what reducing is given: the rows of a query of n lines, and the words of its lines
pub record Given (Q : Query) (n : ℕ) (rows words : List ℕ) : Type 0 where
  pub count : length Q ≡ n
  pub laid : Laid Q rows
  pub worded : Worded Q words
  pub small : Small Q
  pub widths : OneWidth Q
