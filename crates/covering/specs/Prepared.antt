-- What is made of a policy once, as numbers that are lent: the views as rows, view n in row n − 1; behind them the views of each table as
-- a word; then for each view the partitions that grant it; the word of every partition; the columns of each table; and at the end for
-- each view those of its columns that are known to be free.
use Rattle.std.specs.Prelude.{◌≡◌, cond, List, ℕ, ◌+◌, ◌-◌, ◌*◌, ◌^◌, ◌≤◌, ◌<◌, eqb, length, get_or}
use Rattle.theory.specs.Query.{Line as TheLine}
use Rattle.words.specs.Sets.{set_bit}
use Rattle.model.specs.Limits.{most_tables, most_columns, most_views}
use Rattle.model.specs.Rows.{row_long, LaidAt}
use Rattle.model.specs.declared.Line.{Line}
use Rattle.model.specs.declared.Policy.{Policy}
use Rattle.covering.specs.Free.{FreeColumns}
use Rattle.covering.specs.Views.{Holds, TableViews, LaidViews}

-- where the words of the tables begin, the grants of the views, where the word of every partition stands, where the columns begin, and the
-- free columns of the views
abbrev pub table_words : ℕ
table_words = most_views * row_long

abbrev pub grant_words : ℕ
grant_words = table_words + most_tables + 1

abbrev pub every_word : ℕ
every_word = grant_words + most_views

abbrev pub width_words : ℕ
width_words = every_word + 1

abbrev pub free_words : ℕ
free_words = width_words + most_tables + 1

abbrev pub prepared_long : ℕ
prepared_long = free_words + most_views

-- the views of a table, of a table's number
abbrev pub table_word : List ℕ → ℕ → ℕ
table_word r t = get_or r (table_words + t) 0

-- the partitions that grant the view at place k, counted from 0
abbrev pub grant_word : List ℕ → ℕ → ℕ
grant_word r k = get_or r (grant_words + k) 0

-- the columns of a table, of a table's number
abbrev pub table_width : List ℕ → ℕ → ℕ
table_width r t = get_or r (width_words + t) 0

-- the columns of the view at place k that are known to be free
abbrev pub free_word : List ℕ → ℕ → ℕ
free_word r k = get_or r (free_words + k) 0

-- a table's number, its views within their word and its columns within their limit
pub record Tabled (r : List ℕ) (t : ℕ) : Type 0 where
  pub last : t ≤ most_tables
  pub views : table_word r t < 2 ^ most_views
  pub columns : table_width r t ≤ most_columns

pub record Prepared (p : Policy) (r : List ℕ) : Type 0 where
  pub long : length r ≡ prepared_long
  pub laid : (views : List TheLine) → Holds p views → LaidViews r views
  pub table : (t : ℕ) → t ≤ most_tables → TableViews p t (table_word r t)
  pub grant : (k : ℕ) → k < most_views → grant_word r k ≡ get_or p.grants k 0
  pub every : get_or r every_word 0 ≡ 2 ^ p.partition_count - 1
  pub width : (t : ℕ) → t < most_tables → table_width r (1 + t) ≡ get_or p.tables.columns t 0
  pub free : (k : ℕ) → k < most_views → FreeColumns r k (free_word r k)

-- the columns of each table entered; all before them and behind them stays
pub record WidthsEntered (columns before after : List ℕ) : Type 0 where
  pub long : length after ≡ length before
  pub kept : (i : ℕ) → i < width_words → get_or after i 0 ≡ get_or before i 0
  pub behind : (i : ℕ) → free_words ≤ i → get_or after i 0 ≡ get_or before i 0
  pub width : (t : ℕ) → t < most_tables → table_width after (1 + t) ≡ get_or columns t 0

-- the view at place k entered: its row, its bit in the word of its table, and its grants; what stands there of views before it stays
pub record ViewEntered (v : Line) (grants k : ℕ) (before after : List ℕ) : Type 0 where
  pub long : length after ≡ length before
  pub row : LaidAt after k v
  pub rows : (i : ℕ) → i < k * row_long → get_or after i 0 ≡ get_or before i 0
  pub table : (t : ℕ) → t ≤ most_tables
      → table_word after t ≡ cond (eqb t v.table) (set_bit (table_word before t) k) (table_word before t)
  pub granted : grant_word after k ≡ grants
  pub others : (j : ℕ) → j < k → grant_word after j ≡ grant_word before j
  pub behind : (i : ℕ) → every_word ≤ i → get_or after i 0 ≡ get_or before i 0

-- the free columns of each view entered; all before them stays
pub record FreeFound (before after : List ℕ) : Type 0 where
  pub long : length after ≡ length before
  pub kept : (i : ℕ) → i < free_words → get_or after i 0 ≡ get_or before i 0
  pub free : (k : ℕ) → k < most_views → FreeColumns after k (free_word after k)
