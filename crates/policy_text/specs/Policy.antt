-- The policy value of what a text declares.
use Rattle.std.specs.Prelude.{Bool, List, map, ℕ, eqb, length}
use Rattle.theory.specs.Executable.Test.{any}
use Rattle.words.specs.TestBits.{test_bits, up_from}
use Rattle.model.specs.Limits.{most_views}
use Rattle.model.specs.Value.{pad, line_value, unused_line, tables_value}
use Rattle.model.specs.declared.Policy.{Policy}
use Rattle.policy_text.specs.Declared.{Declared}

-- whether a partition, which is the numbers of its views, lists view n
unfoldable pub lists : List ℕ → ℕ → Bool
unfolding any
lists ns n = any (eqb n) ns

-- the partitions that grant view n, as a word: the first at bit 0
unfoldable pub grants_of : List (List ℕ) → ℕ → ℕ
unfolding test_bits lists
grants_of partitions n = test_bits (λ ns. lists ns n) partitions

-- the views of a partition, as a word: view n at bit n − 1
unfoldable pub views_word : List ℕ → ℕ
unfolding test_bits lists up_from
views_word ns = test_bits (lists ns) (up_from 1 most_views)

-- "that text's tables, views and partitions, all of them, in file order and nothing else", unused entries behind them: each partition
-- is a bit in the words of the views that it grants
unfoldable pub policy_value : Declared → Policy
unfolding tables_value pad line_value unused_line grants_of up_from
policy_value d =
    record {
      tables = tables_value d.widths;
      view_count = length d.views;
      views = pad most_views unused_line (map line_value d.views);
      partition_count = length d.partitions;
      grants = map (grants_of d.partitions) (up_from 1 most_views);
    }
