-- Explanations worked out by hand from document 01, "Explanation", under the views of its example and under two of them.
use Rattle.std.specs.Prelude.{Bool, true, false, List, [], ◌∷◌, ℕ}
use Rattle.theory.specs.Query.{constant, shown, hidden, Line, Query}
use Rattle.theory.specs.Executable.Label.{labels}
use Rattle.theory.specs.Printed.{view2, view4, query1, query4, query6}
use Rattle.theory.specs.Printed.{views as example_views}
use Rattle.policy_text.specs.Policy.{views_word}
use Rattle.labelling.specs.Settled.{settled}
use Rattle.explain.specs.Explanation.{explained}

-- whether the partition settles the query, and the words
pub record Explanation : Type 0 where
  pub settles : Bool
  pub words : List ℕ

-- "For a query and a partition", which is the numbers of its views
unfoldable pub explanation : List Line → List ℕ → Query → Explanation
unfolding labels views_word settled explained
explanation views partition Q =
    let granted = views_word partition in
    let ws = labels views Q in record { settles = settled granted ws; words = explained granted ws }

-- a query and a partition of these views, and what the explanation should be
pub record Worked : Type 0 where
  pub views : List Line
  pub partition : List ℕ
  pub query : Query
  pub should : Explanation

-- under the views of the example
example : List ℕ → Query → Bool → List ℕ → Worked
example partition Q settles words =
    record { views = example_views; partition = partition; query = Q; should = record { settles = settles; words = words } }

-- under its views 2 and 4 alone, numbered 1 and 2
two : List ℕ → Query → Bool → List ℕ → Worked
two partition Q settles words =
    record { views = view2 ∷ view4 ∷ []; partition = partition; query = Q; should = record { settles = settles; words = words } }

-- `1 !1 #4 ?2`: views 1 and 2 of the example, the first of the two
four : Line
four = record { table = 1; columns = shown 1 ∷ constant 4 ∷ hidden 2 ∷ [] }

-- `1 !3 #5 ?4`: the same
five : Line
five = record { table = 1; columns = shown 3 ∷ constant 5 ∷ hidden 4 ∷ [] }

-- `1 !3 #5 ?2`: joined to `1 !1 #4 ?2`, view 1 for each
joined : Line
joined = record { table = 1; columns = shown 3 ∷ constant 5 ∷ hidden 2 ∷ [] }

-- `1 !5 !6 !7`: view 1, none of the two
whole : Line
whole = record { table = 1; columns = shown 5 ∷ shown 6 ∷ shown 7 ∷ [] }

-- `2 !1 #7`: views 3 and 4, the second of the two
seven : Line
seven = record { table = 2; columns = shown 1 ∷ constant 7 ∷ [] }

-- `2 !1 #8`: view 3, none of the two
eight : Line
eight = record { table = 2; columns = shown 1 ∷ constant 8 ∷ [] }

-- The example's partitions are views 2 and 3, and views 1 and 4. View n is 2 ^ (n - 1) in a word.
unfoldable pub worked : List Worked
unfolding example_views view2 view4 query1 query4 query6 example two four five joined whole seven eight
worked =
    -- "each label's views that are granted, one 32-bit word per label": queries (1), (2) and (6)
    example (2 ∷ 3 ∷ []) query1 true (2 ∷ [])
    ∷ example (1 ∷ 4 ∷ []) query1 true (1 ∷ [])
    ∷ example (2 ∷ 3 ∷ []) (four ∷ seven ∷ []) true (2 ∷ 4 ∷ [])
    ∷ example (1 ∷ 4 ∷ []) (four ∷ seven ∷ []) true (1 ∷ 8 ∷ [])
    ∷ example (2 ∷ 3 ∷ []) query6 true (2 ∷ [])
    ∷ example (1 ∷ 2 ∷ 3 ∷ 4 ∷ []) (four ∷ seven ∷ []) true (3 ∷ 12 ∷ [])
    -- "the views of each label that holds no granted view": query (4), and others
    ∷ example (2 ∷ 3 ∷ []) query4 false (1 ∷ [])
    ∷ example (1 ∷ 4 ∷ []) (eight ∷ []) false (4 ∷ [])
    ∷ example (1 ∷ 4 ∷ []) (whole ∷ eight ∷ []) false (4 ∷ [])
    -- "Words ascend as numbers", whatever the order of the lines
    ∷ example (2 ∷ 3 ∷ []) (seven ∷ four ∷ []) true (2 ∷ 4 ∷ [])
    ∷ example [] (eight ∷ whole ∷ []) false (1 ∷ 4 ∷ [])
    -- "repeats kept in the settled case only"
    ∷ example (2 ∷ 3 ∷ []) (four ∷ five ∷ []) true (2 ∷ 2 ∷ [])
    ∷ example (2 ∷ 3 ∷ []) (four ∷ joined ∷ []) false (1 ∷ [])
    -- "without any word that strictly includes another": 3 includes 1, and 12 includes 4
    ∷ example [] (four ∷ whole ∷ []) false (1 ∷ [])
    ∷ example [] (whole ∷ seven ∷ four ∷ eight ∷ []) false (1 ∷ 4 ∷ [])
    -- "A word 0 means that no view would do": every other word includes it
    ∷ two (1 ∷ 2 ∷ []) (whole ∷ seven ∷ []) false (0 ∷ [])
    ∷ two [] (four ∷ whole ∷ seven ∷ eight ∷ []) false (0 ∷ [])
    ∷ []
