-- A line that goes while others stay, by the rows of lines and the words of their variables.
use Rattle.std.specs.Prelude.{◌≡◌, ◌&&◌, List, ℕ, ◌<◌, T}
use Rattle.words.specs.Bits.{bit, is_set}
use Rattle.model.specs.Rows.{laid_term}
use Rattle.model.specs.Limits.{most_columns}
use Rattle.entering.specs.Showing.{hidden_term}
use Rattle.entering.specs.Worded.{hidden_word}

-- w has every hidden variable of the lines of `rows`
abbrev pub VariablesIn : (words : List ℕ) (rows w : ℕ) → Type 0
VariablesIn words rows w = (j n : ℕ) → bit rows j ≡ 1 → bit (hidden_word words j) n ≡ 1 → bit w n ≡ 1

-- row b has each of the variables `others` that row i has, where row i has it
abbrev pub Keeps : (rows : List ℕ) (i b others : ℕ) → Type 0
Keeps rows i b others =
    (p : ℕ) → p < most_columns → T (hidden_term (laid_term rows i p) && is_set others (laid_term rows i p).number)
    → laid_term rows i p ≡ laid_term rows b p

-- one of the targets does
pub record GoesAlone (rows : List ℕ) (i targets others : ℕ) : Type 0 where
  pub target : ℕ
  pub among : bit targets target ≡ 1
  pub keeps : Keeps rows i target others
