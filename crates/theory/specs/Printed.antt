-- Document 01, "The program and its first file": its policy, and its rows marked (P) with their words in full.
use Rattle.std.specs.Prelude.{List, [], ◌∷◌, ℕ}
use Rattle.theory.specs.Query.{Term, constant, shown, hidden, Line, Query}

-- "1 3", "2 2"
unfoldable pub widths : List ℕ
widths = 3 ∷ 2 ∷ []

-- `1 1 !1 !2 !3`
unfoldable pub view1 : Line
view1 = record { table = 1; columns = shown 1 ∷ shown 2 ∷ shown 3 ∷ [] }

-- `2 1 !1 !2 ?3`
unfoldable pub view2 : Line
view2 = record { table = 1; columns = shown 1 ∷ shown 2 ∷ hidden 3 ∷ [] }

-- `3 2 !1 !2`
unfoldable pub view3 : Line
view3 = record { table = 2; columns = shown 1 ∷ shown 2 ∷ [] }

-- `4 2 !1 #7`
unfoldable pub view4 : Line
view4 = record { table = 2; columns = shown 1 ∷ constant 7 ∷ [] }

unfoldable pub views : List Line
unfolding view1 view2 view3 view4
views = view1 ∷ view2 ∷ view3 ∷ view4 ∷ []

-- `1 2 3`
unfoldable pub partition1 : List Line
unfolding view2 view3
partition1 = view2 ∷ view3 ∷ []

-- query (1), `1 !1 #4 ?2`
unfoldable pub query1 : Query
query1 = record { table = 1; columns = shown 1 ∷ constant 4 ∷ hidden 2 ∷ [] } ∷ []

-- query (4), `1 !1 !2 !3`
unfoldable pub query4 : Query
query4 = record { table = 1; columns = shown 1 ∷ shown 2 ∷ shown 3 ∷ [] } ∷ []

-- query (6), `1 !1 !2 ?3` and `1 ?4 !2 ?3`
unfoldable pub query6 : Query
query6 =
    record { table = 1; columns = shown 1 ∷ shown 2 ∷ hidden 3 ∷ [] }
    ∷ record { table = 1; columns = hidden 4 ∷ shown 2 ∷ hidden 3 ∷ [] }
    ∷ []

-- a query of one line
one : ℕ → List Term → Query
one t ts = record { table = t; columns = ts } ∷ []

-- a query and its words
pub record Printed : Type 0 where
  pub query : Query
  pub words : List ℕ

-- The rows marked (P), in the order of document 01. A word is its table and 2 ^ (31 + n) for each view n.
unfoldable pub printed : List Printed
unfolding query1 query4 query6 one
printed =
    record { query = query1; words = 12_884_901_889 ∷ [] }
    ∷ record { query = one 2 (shown 1 ∷ hidden 2 ∷ []); words = 17_179_869_186 ∷ [] }
    ∷ record { query = one 2 (shown 1 ∷ constant 7 ∷ []); words = 51_539_607_554 ∷ [] }
    ∷ record { query = one 2 (shown 1 ∷ constant 8 ∷ []); words = 17_179_869_186 ∷ [] }
    ∷ record { query = query4; words = 4_294_967_297 ∷ [] }
    ∷ record { query = one 1 (shown 1 ∷ hidden 2 ∷ hidden 2 ∷ []); words = 4_294_967_297 ∷ [] }
    ∷ record { query = one 1 (shown 1 ∷ shown 1 ∷ hidden 2 ∷ []); words = 12_884_901_889 ∷ [] }
    ∷ record { query = one 2 (hidden 1 ∷ hidden 2 ∷ []); words = 17_179_869_186 ∷ [] }
    ∷ record { query = query6; words = 12_884_901_889 ∷ [] }
    ∷ record {
      query =
          record { table = 1; columns = shown 1 ∷ constant 4 ∷ hidden 2 ∷ [] }
          ∷ record { table = 1; columns = shown 3 ∷ constant 5 ∷ hidden 2 ∷ [] }
          ∷ [];
      words = 4_294_967_297 ∷ 4_294_967_297 ∷ [];
    }
    ∷ []
