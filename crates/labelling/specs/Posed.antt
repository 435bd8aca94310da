-- A query posed under a policy, as the code holds the two, and its labels.
use Rattle.std.specs.Prelude.{◌≡◌, List, map, ℕ, ◌+◌, ◌-◌, ◌^◌, ◌≤◌, ◌<◌, length, get_or}
use Rattle.theory.specs.Query.{Fits, ◌∈◌}
use Rattle.theory.specs.Query.{Line as TheLine, Query as TheQuery}
use Rattle.theory.specs.Archive.{AllFit}
use Rattle.theory.specs.Executable.Label.{label, labels}
use Rattle.theory.specs.Executable.Reduce.{reduce}
use Rattle.theory.specs.Executable.Show.{show}
use Rattle.model.specs.Limits.{most_tables, most_columns, most_views, most_lines}
use Rattle.model.specs.Rows.{LaidAt}
use Rattle.model.specs.Value.{line_value, tables_value}
use Rattle.model.specs.declared.Query.{Query}
use Rattle.model.specs.declared.Tables.{Tables}
use Rattle.policy_text.specs.Declared.{Declared}
use Rattle.policy_text.specs.WellFormed.{WellFormed}
use Rattle.policy_text.specs.Policy.{grants_of}
use Rattle.covering.specs.Free.{FreeColumns}
use Rattle.covering.specs.Views.{OfTable, LaidViews}
use Rattle.covering.specs.Prepared.{every_word, prepared_long, table_word, grant_word, table_width, free_word}
use Rattle.entering.specs.Agree.{line_at}
use Rattle.entering.specs.Left.{lines_at}
use Rattle.entering.specs.Laid.{HoldsQuery, Laid}
use Rattle.entering.specs.Showing.{Small, SharedWord, show_line}
use Rattle.word_list.specs.Value.{words_value}
use Rattle.labelling.specs.Settled.{settling, settling_lines}
use Rattle.labelling.specs.declared.Labels.{Labels}

-- ---- what is made of a policy once

pub record Ready (d : Declared) (tables : Tables) (r : List ℕ) : Type 0 where
  pub good : WellFormed d
  pub tables_are : tables ≡ tables_value d.widths
  pub long : length r ≡ prepared_long
  pub laid : LaidViews r d.views
  pub below : (t : ℕ) → t ≤ most_tables → table_word r t < 2 ^ most_views
  pub bits : (t : ℕ) → 1 ≤ t → t ≤ most_tables → OfTable d.views t (table_word r t)
  pub grant : (k : ℕ) → k < most_views → grant_word r k ≡ grants_of d.partitions (k + 1)
  pub every : get_or r every_word 0 ≡ 2 ^ length d.partitions - 1
  pub width : (t : ℕ) → t < most_tables → table_width r (1 + t) ≡ get_or d.widths t 0
  pub free : (k : ℕ) → k < most_views → FreeColumns r k (free_word r k)

abbrev pub SomeReady : Tables → List ℕ → Type 0
SomeReady tables r = (d : Declared) × Ready d tables r

-- ---- a line, and a query

-- row i has a line of one of the policy's tables
pub record LineOf (d : Declared) (rows : List ℕ) (i : ℕ) (A : TheLine) : Type 0 where
  pub line : LaidAt rows i (line_value A)
  pub fits : Fits d.widths A

-- q holds a query on the policy's tables
pub record Posed (q : Query) (d : Declared) (Q : TheQuery) : Type 0 where
  pub query : HoldsQuery q Q
  pub small : Small Q
  pub fits : AllFit d.widths Q

-- rows hold such a query, of n lines
pub record PosedRows (d : Declared) (Q : TheQuery) (n : ℕ) (rows : List ℕ) : Type 0 where
  pub count : length Q ≡ n
  pub laid : Laid Q rows
  pub small : Small Q
  pub fits : AllFit d.widths Q

-- the rows of such a query, its variables of a word shown
pub record Rows (d : Declared) (Q : TheQuery) (w : ℕ) (rows : List ℕ) : Type 0 where
  pub lines : length Q ≤ most_lines
  pub columns : (A : TheLine) → A ∈ Q → length A.columns ≤ most_columns
  pub small : Small Q
  pub fits : AllFit d.widths Q
  pub row : (i : ℕ) → i < length Q → LaidAt rows i (show_line w (line_value (line_at Q i)))

-- What reducing and showing leave of such a query: `left` has the lines of its reduced form, and the variables that these share are
-- shown in the rows.
pub record ShownIn (d : Declared) (Q : TheQuery) (left : ℕ) (rows : List ℕ) : Type 0 where
  pub word : ℕ
  pub shown : Rows d Q word rows
  pub shared : SharedWord (lines_at left Q) word
  pub reduced : lines_at left Q ≡ reduce Q

-- ---- the labels

-- the labels, and the partitions that settle the query
unfoldable pub labels_value : List ℕ → ℕ → Labels
unfolding words_value
labels_value ws settling = record { words = words_value ws; settling = settling }

-- ---- what is asked of labelling, and what it gives

-- the rows of a query of n lines on the tables of some policy
abbrev pub SomeQueryRows : ℕ → List ℕ → Type 0
SomeQueryRows n lines = (d : Declared) × (Q : TheQuery) × PosedRows d Q n lines

-- its lines that are left, and the rows with the variables shown that these share
abbrev pub RowsShown : ℕ → List ℕ → ℕ → List ℕ → Type 0
RowsShown n lines left after = (d : Declared) (Q : TheQuery) → PosedRows d Q n lines → ShownIn d Q left after

-- the rows of a query of n lines, its variables of some word shown
abbrev pub SomeRows : List ℕ → ℕ → List ℕ → Type 0
SomeRows r n lines =
    (d : Declared) × (t : Tables) × (Q : TheQuery) × (w : ℕ) × Ready d t r × (length Q ≡ n) × Rows d Q w lines

-- the labels of the lines left, where the word is that of their shared variables, and which partitions have a view for each
abbrev pub RowsGiven : List ℕ → ℕ → List ℕ → ℕ → Labels → Type 0
RowsGiven r n lines left l =
    (d : Declared) (t : Tables) (Q : TheQuery) (w : ℕ) → Ready d t r → length Q ≡ n → Rows d Q w lines → SharedWord (lines_at left Q) w →
    let R = show (lines_at left Q) in
    l ≡ labels_value (map (label d.views) R) (settling_lines d R)

-- the rows of a query of n lines on the policy's tables
abbrev pub SomePosedRows : List ℕ → ℕ → List ℕ → Type 0
SomePosedRows r n lines = (d : Declared) × (t : Tables) × (Q : TheQuery) × Ready d t r × PosedRows d Q n lines

-- its labels, and which partitions settle it
abbrev pub PosedRowsGiven : List ℕ → ℕ → List ℕ → Labels → Type 0
PosedRowsGiven r n lines l =
    (d : Declared) (t : Tables) (Q : TheQuery) → Ready d t r → PosedRows d Q n lines
    → l ≡ labels_value (labels d.views Q) (settling d Q)

-- a query on the policy's tables
abbrev pub SomePosed : List ℕ → Query → Type 0
SomePosed r q = (d : Declared) × (t : Tables) × (Q : TheQuery) × Ready d t r × Posed q d Q

-- the same of it
abbrev pub QueryGiven : List ℕ → Query → Labels → Type 0
QueryGiven r q l =
    (d : Declared) (t : Tables) (Q : TheQuery) → Ready d t r → Posed q d Q → l ≡ labels_value (labels d.views Q) (settling d Q)
