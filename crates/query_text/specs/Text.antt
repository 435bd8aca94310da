-- Document 01, "Query: `table terms`, then its lines", and what turns a query text back when deciding.
use Rattle.std.specs.Prelude.{cond, not, List, [], ◌∷◌, ◌++◌, ℕ, zero, suc, leb, ltb, length}
use Rattle.std.proofs.Math.Option.{Option, none, some}
use Rattle.theory.specs.Query.{Line, Query}
use Rattle.text.specs.Lines.{lines, same_bytes}
use Rattle.text.specs.Names.{table_terms}
use Rattle.model.specs.Fields.{query_line}
use Rattle.model.specs.Limits.{most_lines, line_within}
use Rattle.model.specs.Checks.{known, wide, clashing, Check, first_fault, fitting}

-- a query text's query, or the number that turns it back and the line
pub data Reading : Type 0 where
  refused : (number line : ℕ) → Reading
  accepted : Query → Reading

-- "query text at most 4,096" bytes
abbrev pub most_query_bytes : ℕ
most_query_bytes = 4096

-- what turns a query text back: "1, 7 (a ninth line), 2, 4, 5, 6", and 7 for its length
abbrev pub query_numbers : List ℕ
query_numbers = 1 ∷ 7 ∷ 2 ∷ 4 ∷ 5 ∷ 6 ∷ []

-- what turns a line back that stands behind the lines `earlier`: "1, 7 (a ninth line), 2, 4, 5, 6", the 1 apart
abbrev pub line_checks : List ℕ → List Line → Line → List Check
line_checks widths earlier A =
    record { broken = leb most_lines (length earlier); number = 7 }
    ∷ record { broken = not (line_within A); number = 2 }
    ∷ fitting widths earlier A

-- the number of the first that does, 0 where none does
unfoldable pub fault : List ℕ → List Line → Line → ℕ
unfolding first_fault line_within known wide clashing
fault widths earlier A = first_fault (line_checks widths earlier A)

-- the text stops here: with a tail that lacks its end, or before the first line of values, it is faulty at this line
unfoldable pub query_ends : List Line → ℕ → List ℕ → Reading
query_ends earlier k (b ∷ tail) = refused 1 k
query_ends [] k [] = refused 1 k
query_ends (A ∷ earlier) k [] = accepted (A ∷ earlier)

-- a line that is malformed (1), or has a fault, turns the text back; behind any other the text goes on
unfoldable pub judged : ℕ → ℕ → Reading → Reading
judged zero k next = next
judged (suc n) k next = refused (suc n) k

unfoldable pub step : Option Line → ℕ → (Line → ℕ) → (Line → Reading) → Reading
unfolding judged
step none k fault next = refused 1 k
step (some A) k fault next = judged (fault A) k (next A)

-- "The first faulty line counts": the lines from number k on, behind the lines `earlier`
unfoldable pub read_from : List ℕ → List Line → ℕ → List (List ℕ) → List ℕ → Reading
unfolding query_ends step fault query_line
read_from widths earlier k [] tail = query_ends earlier k tail
read_from widths earlier k (l ∷ ls) tail =
    step (query_line l) k (fault widths earlier) (λ A. read_from widths (earlier ++ A ∷ []) (suc k) ls tail)

-- the names line, then the lines of values
unfoldable pub read_lines : List ℕ → List (List ℕ) → List ℕ → Reading
unfolding read_from same_bytes table_terms
read_lines widths [] tail = refused 1 1
read_lines widths (l ∷ ls) tail = cond (same_bytes l table_terms) (read_from widths [] 2 ls tail) (refused 1 1)

-- "7 at line 0 for length, else …"
unfoldable pub read : List ℕ → List ℕ → Reading
unfolding read_lines lines
read widths text =
    let s = lines text in cond (ltb most_query_bytes (length text)) (refused 7 0) (read_lines widths s.ended s.rest)
