-- The labels that hold no granted view, and the views that hit them, as the code holds them.
use Rattle.std.specs.Prelude.{◌≡◌, List, map, ℕ, ◌-◌, ◌^◌, ◌≤◌, ◌<◌, T, length, replicate, Option, Result}
use Rattle.theory.specs.Query.{◌∈◌}
use Rattle.words.specs.Bits.{is_set}
use Rattle.words.specs.TestBits.{test_bits, up_from}
use Rattle.model.specs.Limits.{most_lines, most_views}
use Rattle.model.specs.declared.Refusal.{Refusal}
use Rattle.word_list.specs.Value.{words_value}
use Rattle.word_list.specs.declared.Words.{Words}
use Rattle.explain.specs.Explanation.{lacking}
use Rattle.hitting.specs.Best.{Numbered, Best, HoldsBest}
use Rattle.label_lists.specs.HoldsLabels.{HoldsLabels}
use Rattle.grants.specs.Granting.{said_none, some_bare, Replies, Written}

-- which of some words of views, the first at bit 0, hold view v + 1
unfoldable pub holding : List ℕ → ℕ → ℕ
unfolding test_bits
holding ws v = test_bits (λ w. is_set w v) ws

-- the same for each view, the first at place 0
unfoldable pub hits_of : List ℕ → List ℕ
unfolding holding up_from
hits_of ws = map (holding ws) (up_from 0 most_views)

-- no view costs anything
abbrev pub no_costs : List ℕ
no_costs = replicate most_views 0

-- the best list of views for the words
abbrev pub BestFor : List ℕ → List ℕ → Type 0
BestFor ws added = Best (hits_of ws) no_costs (2 ^ length ws - 1) added

-- words that hold it
abbrev pub HoldsBestFor : List ℕ → Words → Type 0
HoldsBestFor ws r = HoldsBest (hits_of ws) no_costs (2 ^ length ws - 1) r

-- labels with their views in 32 bits
abbrev pub SomeLabels : Words → Type 0
SomeLabels l = (ws : List ℕ) × HoldsLabels l ws

-- the grant for labels and the granted views of a partition, given in a buffer
pub record LabelsGranted (granted : ℕ) (ws before : List ℕ) (r : Result (Option ℕ) Refusal) (after : List ℕ) : Type 0 where
  pub bare : T (some_bare ws) → Replies r after said_none before
  pub held : (T (some_bare ws) → ⊥) → (added : List ℕ) × BestFor (lacking granted ws) added × Written r before after added

-- some words of views, none of which is empty
pub record Lacking (l : Words) (ws : List ℕ) : Type 0 where
  pub is : l ≡ words_value ws
  pub few : length ws ≤ most_lines
  pub each : (w : ℕ) → w ∈ ws → (0 < w) × (w < 2 ^ most_views)

abbrev pub SomeLacking : Words → Type 0
SomeLacking l = (ws : List ℕ) × Lacking l ws

-- some numbers of views
abbrev pub SomeNumbers : Words → Type 0
SomeNumbers l = (ns : List ℕ) × (l ≡ words_value ns) × (length ns ≤ most_lines) × Numbered ns
