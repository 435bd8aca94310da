-- Lists of views that between them hit every label of a set: the shortest, of these the cheapest, of these the first. A set of labels
-- is a word, label j at bit j, and so are the labels that a view hits.
use Rattle.std.specs.Prelude.{◌≡◌, ◌⊎◌, List, [], ◌∷◌, ℕ, ◌+◌, ◌-◌, ◌≤◌, T, length, get_or}
use Rattle.theory.specs.Query.{◌∈◌}
use Rattle.words.specs.Bits.{bit}
use Rattle.model.specs.Limits.{most_views, most_lines}
use Rattle.policy_text.specs.WellFormed.{ascend}
use Rattle.word_list.specs.Value.{words_value}
use Rattle.word_list.specs.declared.Words.{Words}
use Rattle.hitting.specs.Order.{Lower}

-- numbers that a view may have
abbrev pub Numbered : List ℕ → Type 0
Numbered M = (v : ℕ) → v ∈ M → (1 ≤ v) × (v ≤ most_views)

-- what stands for view v in words for each view, the first for view 1
abbrev pub of_view : List ℕ → ℕ → ℕ
of_view words v = get_or words (v - 1) 0

-- view v hits a label of the set m
abbrev pub Meets : List ℕ → ℕ → ℕ → Type 0
Meets hits m v = (j : ℕ) × (bit m j ≡ 1) × (bit (of_view hits v) j ≡ 1)

-- each label of the set m is hit by a view of the list
abbrev pub Hits : List ℕ → ℕ → List ℕ → Type 0
Hits hits m M = (j : ℕ) → bit m j ≡ 1 → (v : ℕ) × (v ∈ M) × (bit (of_view hits v) j ≡ 1)

-- what the views of a list cost in sum
unfoldable pub sum : List ℕ → List ℕ → ℕ
sum costs [] = 0
sum costs (v ∷ M) = of_view costs v + sum costs M

-- the best list for the set m
pub record Best (hits costs : List ℕ) (m : ℕ) (best : List ℕ) : Type 0 where
  pub numbered : Numbered best
  pub useful : (v : ℕ) → v ∈ best → Meets hits m v
  pub ascending : T (ascend best)
  pub hits_all : Hits hits m best
  pub fewest : (M : List ℕ) → Numbered M → Hits hits m M → length best ≤ length M
  pub cheapest : (M : List ℕ) → Numbered M → Hits hits m M → length M ≡ length best → sum costs best ≤ sum costs M
  pub first : (M : List ℕ) → Numbered M → Hits hits m M → length M ≡ length best → sum costs M ≡ sum costs best
      → (M ≡ best) ⊎ Lower best M

-- words that hold the best list for the set m
abbrev pub HoldsBest : (hits costs : List ℕ) → ℕ → Words → Type 0
HoldsBest hits costs m r = (best : List ℕ) × (r ≡ words_value best) × (length best ≤ most_lines) × Best hits costs m best
