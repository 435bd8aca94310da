-- Request 1, the rows of an archive as numbers.
use Rattle.std.specs.Prelude.{List, [], ◌∷◌, ◌++◌, ℕ, ◌+◌}
use Rattle.theory.specs.Archive.{Row}
use Rattle.model.specs.Limits.{most_columns}
use Rattle.model.specs.Value.{pad}

-- "Each row is nine 64-bit numbers"
abbrev pub row_cells : ℕ
row_cells = 1 + most_columns

-- "the table, then eight values, unused ones 0"
unfoldable pub cells_of : Row → List ℕ
unfolding pad
cells_of r = r.table ∷ pad most_columns 0 r.columns

-- rows one behind the other
unfoldable pub all_cells : List Row → List ℕ
unfolding cells_of
all_cells [] = []
all_cells (r ∷ rs) = cells_of r ++ all_cells rs
