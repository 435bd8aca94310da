-- A line and a target, or any two lines of a query, as one number.
use Rattle.std.specs.Prelude.{ℕ, ◌+◌, ◌*◌, ◌/◌, ◌%◌}
use Rattle.model.specs.Limits.{most_lines}

-- every line with every line
abbrev pub most_pairs : ℕ
most_pairs = most_lines * most_lines

abbrev pub pair_of : ℕ → ℕ → ℕ
pair_of line target = line * most_lines + target

abbrev pub line_of : ℕ → ℕ
line_of p = p / most_lines

abbrev pub target_of : ℕ → ℕ
target_of p = p % most_lines
