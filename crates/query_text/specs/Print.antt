-- Document 01, "Query: `table terms`, then its lines, as `1 !1 #4 ?2`": the text of a query.
use Rattle.std.specs.Prelude.{List, ◌∷◌, map, ℕ}
use Rattle.theory.specs.Query.{Query}
use Rattle.text.specs.Names.{table_terms}
use Rattle.text.specs.Print.{end_each}
use Rattle.model.specs.Print.{print_query_line}

unfoldable pub query_text : Query → List ℕ
unfolding end_each table_terms print_query_line
query_text Q = end_each (table_terms ∷ map print_query_line Q)
