-- What the code says of the labels that its words hold.
use Rattle.std.specs.Prelude.{◌≡◌, Bool, not, ◌&&◌, List, ℕ, ◌≤◌, length}
use Rattle.theory.specs.Executable.Test.{any}
use Rattle.words.specs.Sets.{meet}
use Rattle.model.specs.Limits.{most_lines}
use Rattle.word_list.specs.Value.{words_value}
use Rattle.labelling.specs.Settled.{settled}
use Rattle.word_list.specs.declared.Words.{Words}
use Rattle.explain.specs.Explanation.{exceeds, lacking, explained}

-- a word strictly includes the views of no label that holds no granted view
abbrev pub is_least : ℕ → List ℕ → ℕ → Bool
is_least granted ws v = not (any (exceeds v) (lacking granted ws))

-- the views of a label are told where the query is not settled
abbrev pub is_told : ℕ → List ℕ → ℕ → Bool
is_told granted ws views = not (meet 64 views granted) && is_least granted ws views

-- r is the explanation, where s says whether the query is settled
abbrev pub WordsTold : Words → ℕ → Bool → Words → Type 0
WordsTold l granted s r =
    (ws : List ℕ) → l ≡ words_value ws → length ws ≤ most_lines → s ≡ settled granted ws → r ≡ words_value (explained granted ws)
