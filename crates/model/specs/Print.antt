-- Document 01, "The texts", the other way round: the lines that `Fields` reads, as they are written.
use Rattle.std.specs.Prelude.{List, [], ◌∷◌, ◌++◌, map, ℕ}
use Rattle.theory.specs.Query.{Term, constant, shown, hidden, Line}
use Rattle.text.specs.Lines.{space}
use Rattle.text.specs.Print.{decimal, joined}
use Rattle.model.specs.Fields.{constant_byte, shown_byte, hidden_byte}

-- "A term is a mark and a numeral: `#` a constant, `!` a shown variable, `?` a hidden one."
unfoldable pub print_term : Term → List ℕ
unfolding decimal
print_term (constant c) = constant_byte ∷ decimal c
print_term (shown n) = shown_byte ∷ decimal n
print_term (hidden n) = hidden_byte ∷ decimal n

-- terms as they are written behind a line's table, each behind a space
unfoldable pub spaced : List Term → List ℕ
unfolding print_term
spaced [] = []
spaced (t ∷ ts) = space ∷ print_term t ++ spaced ts

-- a table and its terms: the fields of a query's line, and those of a view's behind its number
unfoldable pub line_fields : Line → List (List ℕ)
unfolding decimal print_term
line_fields A = decimal A.table ∷ map print_term A.columns

-- a query's line, as `1 !1 #4 ?2`
unfoldable pub print_query_line : Line → List ℕ
unfolding line_fields joined
print_query_line A = joined (line_fields A)

-- the field behind a table's number: its columns
unfoldable pub table_fields : ℕ → List (List ℕ)
unfolding decimal
table_fields w = decimal w ∷ []

-- the fields behind a partition's number: its views
unfoldable pub partition_fields : List ℕ → List (List ℕ)
unfolding decimal
partition_fields vs = map decimal vs

-- a line of a policy: a number, and the fields of what it numbers
unfoldable pub print_line : ℕ → List (List ℕ) → List ℕ
unfolding decimal joined
print_line n fs = joined (decimal n ∷ fs)
