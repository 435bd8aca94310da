-- What the library says of itself: its version, the sizes of its structs in bytes, and the limits of document 01 that a caller makes
-- buffers by.
use Rattle.std.specs.Prelude.{ℕ, ◌+◌, ◌*◌}
use Rattle.model.specs.Limits.{most_tables, most_columns, most_lines, most_views, most_partitions}
use Rattle.policy_text.specs.Text.{most_policy_bytes}
use Rattle.apart.specs.Archives.{most_cells}
use Rattle.embed.specs.declared.about.About.{About}

-- of the functions and structs that C sees
abbrev pub version : ℕ
version = 1

-- every field has 64 bits
abbrev pub cell : ℕ
cell = 8

abbrev pub reply_size : ℕ
reply_size = 4 * cell

abbrev pub session_size : ℕ
session_size = cell

-- a table, and the mark and the number of each term
abbrev pub line_size : ℕ
line_size = cell + most_columns * (2 * cell)

-- the tables' count and columns, the views' count and lines, the partitions' count, and a word of grants for each view
abbrev pub policy_size : ℕ
policy_size = cell + most_tables * cell + cell + most_views * line_size + cell + most_views * cell

abbrev pub about : About
about =
    record {
      version = version;
      policy_size = policy_size;
      session_size = session_size;
      reply_size = reply_size;
      loading_size = reply_size + policy_size;
      opening_size = reply_size + session_size;
      decision_size = reply_size + session_size;
      most_tables = most_tables;
      most_columns = most_columns;
      most_lines = most_lines;
      most_views = most_views;
      most_partitions = most_partitions;
      most_policy_bytes = most_policy_bytes;
      most_apart_cells = most_cells;
    }
