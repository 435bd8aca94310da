-- What a policy value holds that some text loads to.
use mathlib.Core.Path.{◌≡◌, ap, ◌∙◌}
use mathlib.Core.List.{List}
use mathlib.Core.Option.{some}
use Prim.Native.Nat.{ℕ, ◌≤◌}
use native.Mathlib.Omega.{arith}
use lib.ListN.{length, get_elem?}
use Rattle.words.specs.TestBits.{test_bits, up_from}
use Rattle.model.specs.Limits.{most_views, most_partitions}
use Rattle.model.specs.declared.Policy.{Policy}
use Rattle.policy_text.specs.Declared.{Declared}
use Rattle.policy_text.specs.Policy.{views_word, policy_value}
use Rattle.policy_text.specs.Abstract.{granted_at}
use Rattle.policy_text.proofs.Grants.{word_back}
use Rattle.policy_text.proofs.Loaded.{loaded_well_formed}
use Rattle.validity.specs.Loadable.{Loadable}
use Rattle.labelling.specs.Text.{LoadedTo}

pub loaded_to : {p : Policy} (l : Loadable p) → LoadedTo p l.declared
loaded_to l = record { policy = l.value; good = loaded_well_formed l.text l.declared l.loads }

module _ {p : Policy} {d : Declared} (l : LoadedTo p d) where
  pub partition_count : p.partition_count ≡ length d.partitions
  unfolding policy_value
  partition_count = ap (λ (x : Policy). x.partition_count) l.policy

  pub few_partitions : p.partition_count ≤ most_partitions
  few_partitions = omega (arith, partition_count, l.good.partitions.few)

  -- the views that a partition grants, gathered from the words of all views
  pub partition_word : (i : ℕ) (ns : List ℕ) → get_elem? d.partitions i ≡ some ns
      → test_bits (granted_at p.grants i) (up_from 0 most_views) ≡ views_word ns
  unfolding policy_value
  partition_word i ns at =
      ap (λ (x : Policy). test_bits (granted_at x.grants i) (up_from 0 most_views)) l.policy ∙ word_back d.partitions i ns at
