-- Labels, as the code holds them, and what it gives to explain them.
use Rattle.std.specs.Prelude.{◌≡◌, Bool, List, ℕ, Result}
use Rattle.model.specs.declared.Refusal.{Refusal}
use Rattle.word_list.specs.declared.Words.{Words}
use Rattle.labelling.specs.Settled.{settled}
use Rattle.explain.specs.Explanation.{explained}
use Rattle.label_lists.specs.HoldsLabels.{HoldsLabels}
use Rattle.explanations.specs.Explaining.{explained_by, Explains}
use Rattle.explanations.specs.declared.Explaining.{Explaining}

-- labels that a partition with these granted views settles or not, as it is said
abbrev pub SomeExplained : Words → ℕ → Bool → Type 0
SomeExplained l granted is_settled = (ws : List ℕ) × HoldsLabels l ws × (is_settled ≡ settled granted ws)

-- the explanation of such labels, given in a buffer
abbrev pub WordsGiven : Words → ℕ → Bool → List ℕ → Result Explaining Refusal → List ℕ → Type 0
WordsGiven l granted is_settled before r after =
    (ws : List ℕ) → HoldsLabels l ws → is_settled ≡ settled granted ws
    → Explains r after (explained_by before (settled granted ws) (explained granted ws))
