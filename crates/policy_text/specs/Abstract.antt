-- What a policy value stands for: the widths, views and partitions of the theory.
use Rattle.std.specs.Prelude.{Bool, cond, List, [], ◌∷◌, ◌++◌, map, ℕ, zero, suc, take, get_or}
use Rattle.words.specs.Bits.{is_set}
use Rattle.words.specs.TestBits.{up_from}
use Rattle.model.specs.Abstract.{as_line}
use Rattle.model.specs.Limits.{most_views}
use Rattle.model.specs.declared.Policy.{Policy}
use Rattle.policy_text.specs.Declared.{Declared}

-- the views up to n that pass a test, view n by the test of n − 1
unfoldable pub views_in : ℕ → (ℕ → Bool) → List ℕ
views_in zero f = []
views_in (suc n) f = views_in n f ++ cond (f n) (suc n ∷ []) []

-- whether partition i, counted from 0, stands in the word of the view at place k
unfoldable pub granted_at : List ℕ → ℕ → ℕ → Bool
granted_at grants i k = is_set (get_or grants k 0) i

-- the entries before each count
unfoldable pub declared_by : Policy → Declared
unfolding as_line views_in granted_at up_from
declared_by p =
    record {
      widths = take p.tables.count p.tables.columns;
      views = map as_line (take p.view_count p.views);
      partitions = map (λ i. views_in most_views (granted_at p.grants i)) (up_from 0 p.partition_count);
    }
