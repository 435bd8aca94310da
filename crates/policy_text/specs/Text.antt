-- Document 01, "Policy: `table columns`, then `view table terms`, then `partition views`", and "Loading".
use Rattle.std.specs.Prelude.{Bool, true, false, cond, not, ◌&&◌, List, [], ◌∷◌, ◌++◌, ℕ, zero, suc, ltb, eqb, length}
use Rattle.std.proofs.Math.Option.{Option, none, some}
use Rattle.theory.specs.Query.{Line}
use Rattle.theory.specs.Executable.Test.{all, any}
use Rattle.text.specs.Lines.{lines, same_bytes}
use Rattle.text.specs.Names.{table_columns, view_table_terms, partition_views}
use Rattle.model.specs.Fields.{Numbered, table_line, view_line, partition_line}
use Rattle.policy_text.specs.Declared.{Declared}
use Rattle.policy_text.specs.WellFormed.{ascend}
use Rattle.model.specs.Limits.{most_tables, most_columns, most_views, most_partitions, up_to, line_within}
use Rattle.model.specs.Checks.{known, wide, clashing, Check, first_fault, fitting}

-- "it is the empty one: no table, view or partition"
unfoldable pub nothing : Declared
nothing = record { widths = []; views = []; partitions = [] }

-- a policy text's value, or the number that turns it back and the line
pub data Loading : Type 0 where
  refused : (number line : ℕ) → Loading
  accepted : Declared → Loading

-- "Policy text at most 16,384 bytes"
abbrev pub most_policy_bytes : ℕ
most_policy_bytes = 16384

-- what turns a policy text back: "the checks run in the order 1, 7, 2, 3, 4, 5, 6", of which 7 is for its length
abbrev pub policy_numbers : List ℕ
policy_numbers = 1 ∷ 7 ∷ 2 ∷ 3 ∷ 4 ∷ 5 ∷ 6 ∷ []

-- ---- one line: what turns it back apart from its form (1), and what it declares

-- "2: a number outside its limits. 3: a table, view or partition number out of turn"
abbrev pub table_checks : Declared → Numbered ℕ → List Check
table_checks d e =
    record { broken = not (up_to most_tables e.number && up_to most_columns e.value); number = 2 }
    ∷ record { broken = not (eqb e.number (suc (length d.widths))); number = 3 }
    ∷ []

-- the number of the first that turns the line back, 0 where none does; so in each block
unfoldable pub table_fault : Declared → Numbered ℕ → ℕ
unfolding first_fault up_to
table_fault d e = first_fault (table_checks d e)

-- and 4, 5 and 6
abbrev pub view_checks : Declared → Numbered Line → List Check
view_checks d e =
    record { broken = not (up_to most_views e.number && line_within e.value); number = 2 }
    ∷ record { broken = not (eqb e.number (suc (length d.views))); number = 3 }
    ∷ fitting d.widths [] e.value

unfoldable pub view_fault : Declared → Numbered Line → ℕ
unfolding first_fault up_to line_within known wide clashing
view_fault d e = first_fault (view_checks d e)

-- 3 also "a partition's views that don't ascend strictly"
abbrev pub partition_checks : Declared → Numbered (List ℕ) → List Check
partition_checks d e =
    record { broken = not (up_to most_partitions e.number && all (up_to most_views) e.value); number = 2 }
    ∷ record { broken = not (eqb e.number (suc (length d.partitions)) && ascend e.value); number = 3 }
    ∷ record { broken = any (ltb (length d.views)) e.value; number = 4 }
    ∷ []

unfoldable pub partition_fault : Declared → Numbered (List ℕ) → ℕ
unfolding first_fault up_to ascend all any
partition_fault d e = first_fault (partition_checks d e)

-- a line's number that turns it back, or what is declared with it
pub data Entered : Type 0 where
  faulty : ℕ → Entered
  entered : Declared → Entered

unfoldable pub unless : ℕ → Declared → Entered
unless zero d = entered d
unless (suc n) d = faulty (suc n)

-- "1: malformed line", else the first of the checks
unfoldable pub entry : {X : Type 0} → Option (Numbered X) → (Numbered X → ℕ) → (X → Declared) → Entered
unfolding unless
entry none fault add = faulty 1
entry (some e) fault add = unless (fault e) (add e.value)

-- ---- the blocks

-- "Each block is a line of names, then one or more lines of values in that order."
pub data Block : Type 0 where
  tables views partitions : Block

-- a line of values behind what is declared so far, "in file order and nothing else"
unfoldable pub enter : Block → Declared → List ℕ → Entered
unfolding entry table_line view_line partition_line table_fault view_fault partition_fault
enter tables d l =
    entry (table_line l) (table_fault d) (λ w. record { widths = d.widths ++ w ∷ []; views = d.views; partitions = d.partitions })
enter views d l =
    entry (view_line l) (view_fault d) (λ A. record { widths = d.widths; views = d.views ++ A ∷ []; partitions = d.partitions })
enter partitions d l =
    entry (partition_line l) (partition_fault d)
    (λ vs. record { widths = d.widths; views = d.views; partitions = d.partitions ++ vs ∷ [] })

-- the line is the names line of the block behind this one
unfoldable pub is_next : Block → List ℕ → Bool
unfolding same_bytes view_table_terms partition_views
is_next tables l = same_bytes l view_table_terms
is_next views l = same_bytes l partition_views
is_next partitions l = false

unfoldable pub next_block : Block → Block
next_block tables = views
next_block views = partitions
next_block partitions = partitions

-- the text stops here, in a block that has a line of values or not yet: "a text that stops early is faulty one line past its last"
unfoldable pub policy_ends : Block → Bool → Declared → ℕ → List ℕ → Loading
policy_ends b started d k (x ∷ tail) = refused 1 k
policy_ends tables started d k [] = refused 1 k
policy_ends views started d k [] = refused 1 k
policy_ends partitions true d k [] = accepted d
policy_ends partitions false d k [] = refused 1 k

-- behind a line with a fault the text is turned back there
unfoldable pub go_on : Entered → ℕ → (Declared → Loading) → Loading
go_on (faulty n) k next = refused n k
go_on (entered d) k next = next d

-- "The first faulty line counts": the lines from number k on. A block's names line ends the one before it once that has a
-- line of values.
unfoldable pub load_from : Block → Bool → Declared → ℕ → List (List ℕ) → List ℕ → Loading
unfolding policy_ends is_next next_block enter go_on
load_from b started d k [] tail = policy_ends b started d k tail
load_from b started d k (l ∷ ls) tail =
    cond (started && is_next b l) (load_from (next_block b) false d (suc k) ls tail)
    (go_on (enter b d l) k (λ d'. load_from b true d' (suc k) ls tail))

-- the first names line; "an empty text at line 1"
unfoldable pub load_lines : List (List ℕ) → List ℕ → Loading
unfolding load_from nothing same_bytes table_columns
load_lines [] tail = refused 1 1
load_lines (l ∷ ls) tail = cond (same_bytes l table_columns) (load_from tables false nothing 2 ls tail) (refused 1 1)

-- "7, line 0: text too long, before all else."
unfoldable pub load : List ℕ → Loading
unfolding load_lines lines
load text = let s = lines text in cond (ltb most_policy_bytes (length text)) (refused 7 0) (load_lines s.ended s.rest)
