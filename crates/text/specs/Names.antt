-- "Each block is a line of names": the names lines, each written once.
use Rattle.std.specs.Prelude.{List, [], ◌∷◌, ℕ}
use Prim.Native.Char.{code}
use Prim.Native.String.{String, [] as no_text, ◌∷◌ as ◌then◌}

-- the bytes of an ASCII text
unfoldable pub bytes : String → List ℕ
bytes no_text = []
bytes (c then s) = code c ∷ bytes s

unfoldable pub table_columns : List ℕ
unfolding bytes
table_columns = bytes "table columns"

unfoldable pub view_table_terms : List ℕ
unfolding bytes
view_table_terms = bytes "view table terms"

unfoldable pub partition_views : List ℕ
unfolding bytes
partition_views = bytes "partition views"

unfoldable pub table_terms : List ℕ
unfolding bytes
table_terms = bytes "table terms"
