-- Document 01, the limits of numbers (2).
use Rattle.std.specs.Prelude.{Bool, ◌&&◌, ℕ, leb}
use Rattle.theory.specs.Query.{Term, constant, shown, hidden, Line}
use Rattle.theory.specs.Executable.Test.{all}
use Rattle.text.specs.Numeral.{constant_limit}

-- "Tables 1 to 16; columns 1 to 8; views 1 to 32 in all; partitions 1 to 32; lines in a query 1 to 8; variables 0 to 63"
abbrev pub most_tables : ℕ
most_tables = 16

abbrev pub most_columns : ℕ
most_columns = 8

abbrev pub most_views : ℕ
most_views = 32

abbrev pub most_partitions : ℕ
most_partitions = 32

abbrev pub most_lines : ℕ
most_lines = 8

abbrev pub last_variable : ℕ
last_variable = 63

-- from 1 to the most
unfoldable pub up_to : ℕ → ℕ → Bool
up_to most n = leb 1 n && leb n most

-- "variables 0 to 63; constants 0 to 4,294,967,295", and since request 4 to 18,446,744,073,709,551,615
unfoldable pub term_within : Term → Bool
unfolding constant_limit
term_within (constant c) = leb c constant_limit
term_within (shown n) = leb n last_variable
term_within (hidden n) = leb n last_variable

-- the numbers of a line are within their limits (2)
unfoldable pub line_within : Line → Bool
unfolding up_to term_within all
line_within A = up_to most_tables A.table && all term_within A.columns
