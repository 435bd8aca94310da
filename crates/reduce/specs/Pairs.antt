-- The words from which it is told which lines may go.
use Rattle.std.specs.Prelude.{◌≡◌, ◌↔◌, List, ℕ, ◌≤◌, ◌<◌, T, length, get_or}
use Rattle.theory.specs.Query.{Query}
use Rattle.words.specs.Bits.{bit}
use Rattle.model.specs.Limits.{most_lines}
use Rattle.entering.specs.Agree.{goes, agree, line_at}
use Rattle.reduce.specs.PairNumbers.{most_pairs, line_of, target_of}

-- the line of pair p could go to its target
pub record Going (Q : Query) (p : ℕ) : Type 0 where
  pub line : line_of p < length Q
  pub target : target_of p < length Q
  pub goes : T (goes (line_at Q (line_of p)) (line_at Q (target_of p)))

abbrev pub Goings : Query → ℕ → Type 0
Goings Q m = (p : ℕ) → (bit m p ≡ 1) ↔ Going Q p

-- one map can send the lines of pairs p and b to their targets
abbrev pub Joined : Query → ℕ → ℕ → Type 0
Joined Q p b = T (agree (line_at Q (line_of p)) (line_at Q (target_of p)) (line_at Q (line_of b)) (line_at Q (target_of b)))

-- the line of pair p can go to its target by itself
pub record Candidate (Q : Query) (p : ℕ) : Type 0 where
  pub line : line_of p < length Q
  pub target : target_of p < length Q
  pub goes : Joined Q p p

-- the word has the candidates of a query
abbrev pub CandidateWord : Query → ℕ → Type 0
CandidateWord Q m = (p : ℕ) → (bit m p ≡ 1) ↔ Candidate Q p

-- the candidates of a query, and for each that is of a line of `rows` the candidates of later lines of `rows` that are compatible with it
pub record PairsTabled (Q : Query) (rows m : ℕ) (words : List ℕ) : Type 0 where
  pub few : length Q ≤ most_lines
  pub long : length words ≡ most_pairs
  pub candidates : CandidateWord Q m
  pub pairs : (p b : ℕ) → bit m p ≡ 1 → bit m b ≡ 1 → bit rows (line_of p) ≡ 1 → bit rows (line_of b) ≡ 1 → line_of p < line_of b
      → (bit (get_or words p 0) b ≡ 1) ↔ Joined Q p b
