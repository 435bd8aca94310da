-- What holds of every call of `tell_apart`: what settled and apart mean over archives, a refusal's numbers, and when the buffer stays.
use Rattle.std.specs.Prelude.{◌≡◌, ◌↔◌, ◌≢◌, List, ℕ, ◌-◌, ◌≤◌, length, Result}
use Rattle.theory.specs.Query.{Query, ◌∈◌}
use Rattle.model.specs.declared.Policy.{Policy}
use Rattle.model.specs.declared.Refusal.{Refusal}
use Rattle.query_text.specs.Text.{accepted, read}
use Rattle.policy_text.specs.Declared.{PartitionDetermines}
use Rattle.validity.specs.Loadable.{Loadable}
use Rattle.desk.specs.Outcomes.{explaining_numbers}
use Rattle.apart.specs.declared.telling.Telling.{Telling}
use Rattle.apart.specs.Archives.{most_cells, said_telling, says_settled, says_apart, says_refused, ArchivesGiven}

-- a call under a loaded policy, for one of its partitions, with a well-formed query and room for every row
pub record Asked (p : Policy) (l : Loadable p) (n : ℕ) (text before : List ℕ) (Q : Query) : Type 0 where
  pub from_one : 1 ≤ n
  pub among : n ≤ length l.declared.partitions
  pub reads : read l.declared.widths text ≡ accepted Q
  pub room : most_cells ≤ length before

pub record Outcomes : Type 0 where
  -- two replies to one call differ in the rows alone: "The values are free apart from this"
  pub one_outcome : (p : Policy) (n : ℕ) (text before : List ℕ) (r t : Result Telling Refusal) (after then : List ℕ)
      → ArchivesGiven p n text before r after → ArchivesGiven p n text before t then
      → ((said_telling r).word ≡ (said_telling t).word) × ((said_telling r).number ≡ (said_telling t).number)
      × ((said_telling r).line ≡ (said_telling t).line)
  -- "A partition that settles the query gives the reply `settled`": exactly when it determines the query
  pub settled_exactly : (p : Policy) (l : Loadable p) (n : ℕ) (text before : List ℕ) (r : Result Telling Refusal) (after : List ℕ) (Q : Query)
      → ArchivesGiven p n text before r after → Asked p l n text before Q
      → ((said_telling r).word ≡ says_settled) ↔ PartitionDetermines l.declared (n - 1) Q
  -- two archives are given exactly when it does not
  pub apart_exactly : (p : Policy) (l : Loadable p) (n : ℕ) (text before : List ℕ) (r : Result Telling Refusal) (after : List ℕ) (Q : Query)
      → ArchivesGiven p n text before r after → Asked p l n text before Q
      → ((said_telling r).word ≡ says_apart) ↔ (PartitionDetermines l.declared (n - 1) Q → ⊥)
  -- "Checks and numbers are as for explaining"
  pub telling_numbers : (p : Policy) (n : ℕ) (text before : List ℕ) (r : Result Telling Refusal) (after : List ℕ)
      → ArchivesGiven p n text before r after → (said_telling r).word ≡ says_refused → (said_telling r).number ∈ explaining_numbers
  -- "A partition that settles the query gives … no row", nor does a refusal: the buffer stays
  pub telling_buffer_stays : (p : Policy) (n : ℕ) (text before : List ℕ) (r : Result Telling Refusal) (after : List ℕ)
      → ArchivesGiven p n text before r after → (said_telling r).word ≢ says_apart → ((said_telling r).count ≡ 0) × (after ≡ before)
