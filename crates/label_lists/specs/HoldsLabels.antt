-- The labels of a query, as the code holds them.
use Rattle.std.specs.Prelude.{◌≡◌, List, ℕ, ◌/◌, ◌^◌, ◌≤◌, ◌<◌, length}
use Rattle.words.specs.Bits.{half_bits}
use Rattle.theory.specs.Query.{◌∈◌}
use Rattle.model.specs.Limits.{most_lines}
use Rattle.word_list.specs.Value.{words_value}
use Rattle.word_list.specs.declared.Words.{Words}

-- at most eight labels, each with its views in 32 bits
pub record HoldsLabels (l : Words) (ws : List ℕ) : Type 0 where
  pub is : l ≡ words_value ws
  pub few : length ws ≤ most_lines
  pub narrow : (w : ℕ) → w ∈ ws → w / 2 ^ half_bits < 2 ^ half_bits
