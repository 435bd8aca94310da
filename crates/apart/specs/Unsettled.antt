-- A line of a reduced query that a partition has no view for.
use Rattle.std.specs.Prelude.{◌≡◌, true, List, ℕ, ◌<◌, T, length, Option, MatchOption}
use Rattle.std.proofs.Math.Option.{some}
use Rattle.std.proofs.Math.ListN.{get_elem?}
use Rattle.theory.specs.Query.{over, Query}
use Rattle.theory.specs.Executable.Show.{show_term}
use Rattle.words.specs.Bits.{is_set}
use Rattle.model.specs.declared.Tables.{Tables}
use Rattle.policy_text.specs.Declared.{Declared}
use Rattle.entering.specs.Agree.{line_at}
use Rattle.entering.specs.Left.{lines_at}
use Rattle.entering.specs.Showing.{SharedWord}
use Rattle.labelling.specs.Posed.{Ready, Rows}
use Rattle.labelling.specs.Settled.{answers}

-- one of the views with these numbers covers the line at place k of Q, shown as in what is left of Q
abbrev pub AnswersLine : Declared → Query → ℕ → ℕ → List ℕ → Type 0
AnswersLine d Q left k ns = T (answers d.views (over (show_term (lines_at left Q)) (line_at Q k)) ns)

-- it is a line left and has no such view
pub record Unsettled (d : Declared) (Q : Query) (left k : ℕ) (ns : List ℕ) : Type 0 where
  pub there : k < length Q
  pub stays : is_set left k ≡ true
  pub unanswered : AnswersLine d Q left k ns → ⊥

-- such a line, or none and then each line left has such a view
abbrev pub UnsettledFound : List ℕ → ℕ → ℕ → List ℕ → ℕ → Option ℕ → Type 0
UnsettledFound r i n lines left found =
    (d : Declared) (t : Tables) (Q : Query) (w : ℕ) (ns : List ℕ) → Ready d t r → length Q ≡ n → Rows d Q w lines
    → SharedWord (lines_at left Q) w → get_elem? d.partitions i ≡ some ns
    → MatchOption found ((j : ℕ) → j < n → is_set left j ≡ true → AnswersLine d Q left j ns) (λ k. Unsettled d Q left k ns)
