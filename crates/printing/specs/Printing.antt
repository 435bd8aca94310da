-- A query's line written to a buffer: what is written is the line printed.
use Rattle.std.specs.Prelude.{◌≡◌, cond, List, [], ◌∷◌, ◌++◌, ℕ, ◌+◌, ◌*◌, ◌≤◌, eqb, length}
use Rattle.theory.specs.Query.{Term as TheTerm, Line as TheLine}
use Rattle.text.specs.Lines.{newline, space}
use Rattle.model.specs.Limits.{most_columns}
use Rattle.model.specs.Fields.{constant_byte, shown_byte, hidden_byte}
use Rattle.model.specs.Print.{print_term, spaced, print_query_line}
use Rattle.model.specs.Value.{term_value, line_value}
use Rattle.model.specs.declared.Term.{Term}
use Rattle.model.specs.declared.Line.{Line}
use Rattle.writing.specs.Wrote.{most_word_digits, Wrote}

-- a space, a mark and the digits of a number of 64 bits
abbrev pub most_term_bytes : ℕ
most_term_bytes = 2 + most_word_digits

-- a table, the terms, and the end
abbrev pub most_line_bytes : ℕ
most_line_bytes = most_word_digits + most_columns * most_term_bytes + 1

-- "`#` a constant, `!` a shown variable, `?` a hidden one"
unfoldable pub mark_byte : ℕ → ℕ
mark_byte mark = cond (eqb mark 1) constant_byte (cond (eqb mark 2) shown_byte hidden_byte)

-- a term behind a space
abbrev pub TermPut : Term → List ℕ → ℕ → List ℕ → ℕ → Type 0
TermPut t was at is r = (u : TheTerm) → t ≡ term_value u → Wrote was at (space ∷ print_term u) is r

-- the terms of a line, each behind a space
abbrev pub TermsPut : Line → List ℕ → ℕ → List ℕ → ℕ → Type 0
TermsPut line was at is r =
    (A : TheLine) → line ≡ line_value A → length A.columns ≤ most_columns → Wrote was at (spaced A.columns) is r

-- "Query: `table terms`, then its lines, as `1 !1 #4 ?2`"
abbrev pub LinePut : Line → List ℕ → ℕ → List ℕ → ℕ → Type 0
LinePut line was at is r =
    (A : TheLine) → line ≡ line_value A → length A.columns ≤ most_columns → Wrote was at (print_query_line A ++ newline ∷ []) is r
