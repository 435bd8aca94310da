-- The lines that one line could go to, found by the rows and the words of the lines.
use Rattle.std.specs.Prelude.{◌≡◌, ◌↔◌, List, ℕ, ◌<◌, T, length}
use Rattle.theory.specs.Query.{Query}
use Rattle.words.specs.Bits.{bit}
use Rattle.model.specs.Limits.{most_columns}
use Rattle.model.specs.Rows.{laid_table, laid_term}
use Rattle.entering.specs.Agree.{goes, line_at}
use Rattle.entering.specs.Showing.{hidden_term}
use Rattle.entering.specs.Worded.{columns_word}

-- rows a and s have the same terms in the columns of a word
abbrev pub SameAt : List ℕ → ℕ → ℕ → ℕ → Type 0
SameAt rows a s columns = (p : ℕ) → bit columns p ≡ 1 → laid_term rows a p ≡ laid_term rows s p

-- row s has the table of row a, and by its word no hidden variable in the columns kept
pub record Near (rows words : List ℕ) (a kept s : ℕ) : Type 0 where
  pub table : laid_table rows a ≡ laid_table rows s
  pub apart : (p : ℕ) → bit kept p ≡ 1 → bit (columns_word words s) p ≡ 1 → ⊥

-- the word has the lines that line a could go to
abbrev pub TargetWord : Query → ℕ → ℕ → Type 0
TargetWord Q a m = (s : ℕ) → (bit m s ≡ 1) ↔ ((s < length Q) × T (goes (line_at Q a) (line_at Q s)))

-- row t has one term wherever row i has one hidden variable of the word
abbrev pub KeepsOwn : List ℕ → ℕ → ℕ → ℕ → Type 0
KeepsOwn rows i t w =
    (p q : ℕ) → p < most_columns → q < most_columns → T (hidden_term (laid_term rows i p)) → bit w (laid_term rows i p).number ≡ 1
    → laid_term rows i p ≡ laid_term rows i q → laid_term rows t p ≡ laid_term rows t q
