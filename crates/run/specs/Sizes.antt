-- How many bytes are read, and how many are written for them at most.
use Rattle.std.specs.Prelude.{ℕ, ◌+◌, ◌*◌, ◌/◌}
use Rattle.writing.specs.Wrote.{most_field_bytes}

-- "standard input to 65,536 bytes"
abbrev pub most_input : ℕ
most_input = 65536

-- the names line `table terms`, with which each query but the first starts
abbrev pub least_query : ℕ
least_query = 12

-- no query has a number past this one
abbrev pub most_queries : ℕ
most_queries = most_input / least_query + 2

-- `refused`
abbrev pub word_long : ℕ
word_long = 7

-- a line of the output: four numbers and a word, each with the byte behind it
abbrev pub line_long : ℕ
line_long = 4 * most_field_bytes + word_long + 1

-- the names line of the output
abbrev pub names_long : ℕ
names_long = 31

abbrev pub lines_long : ℕ
lines_long = most_queries * line_long

-- the room that the program has for its output
abbrev pub most_output : ℕ
most_output = 524288
