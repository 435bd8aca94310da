-- Document 01, "The program and its first file": its policy as printed there.
use Rattle.std.specs.Prelude.{List, [], ◌∷◌, ◌++◌, ℕ}
use Rattle.theory.specs.Printed.{widths, views}
use Rattle.text.specs.Names.{bytes}
use Rattle.policy_text.specs.Declared.{Declared}

unfoldable pub example_text : List ℕ
unfolding bytes
example_text =
    bytes "table columns\n"
    ++ bytes "1 3\n"
    ++ bytes "2 2\n"
    ++ bytes "view table terms\n"
    ++ bytes "1 1 !1 !2 !3\n"
    ++ bytes "2 1 !1 !2 ?3\n"
    ++ bytes "3 2 !1 !2\n"
    ++ bytes "4 2 !1 #7\n"
    ++ bytes "partition views\n"
    ++ bytes "1 2 3\n"
    ++ bytes "2 1 4\n"

-- its tables, views and partitions
unfoldable pub example_value : Declared
unfolding widths views
example_value = record { widths = widths; views = views; partitions = (2 ∷ 3 ∷ []) ∷ (1 ∷ 4 ∷ []) ∷ [] }
