-- What holds of every call of `smallest_grant`: that the contract fixes reply and buffer, what the empty list and `none` mean over
-- archives, a refusal's numbers, and when the buffer stays.
use Rattle.std.specs.Prelude.{◌≡◌, ◌↔◌, ◌≢◌, List, ℕ, ◌-◌, ◌≤◌, T, length, Option, Result}
use Rattle.theory.specs.Query.{Query, ◌∈◌}
use Rattle.theory.specs.Executable.Label.{labels}
use Rattle.model.specs.declared.Policy.{Policy}
use Rattle.model.specs.declared.Refusal.{Refusal}
use Rattle.query_text.specs.Text.{accepted, read}
use Rattle.policy_text.specs.Declared.{Declared, PartitionDetermines}
use Rattle.validity.specs.Loadable.{Loadable}
use Rattle.desk.specs.Outcomes.{explaining_numbers}
use Rattle.grants.specs.Smallest.{Smallest, Hopeless}
use Rattle.grants.specs.Granting.{said_list, said_none, said_granting, says_list, says_refused, some_bare, GrantGiven}

-- a call under a loaded policy, for one of its partitions, with a well-formed query
pub record Asked (p : Policy) (l : Loadable p) (n : ℕ) (text : List ℕ) (Q : Query) : Type 0 where
  pub from_one : 1 ≤ n
  pub among : n ≤ length l.declared.partitions
  pub reads : read l.declared.widths text ≡ accepted Q

pub record Outcomes : Type 0 where
  -- two lists that are the smallest are one
  pub smallest_unique : (d : Declared) (i : ℕ) (Q : Query) (k l : List ℕ) → Smallest d i Q k → Smallest d i Q l → k ≡ l
  -- so the contract fixes the reply and every number of the buffer
  pub one_outcome : (p : Policy) (n : ℕ) (text before : List ℕ) (r t : Result (Option ℕ) Refusal) (after then : List ℕ)
      → GrantGiven p n text before r after → GrantGiven p n text before t then
      → (r ≡ t) × (after ≡ then)
  -- "A settled query gives the empty list.": exactly where the partition determines the query, whatever the buffer
  pub empty_exactly : (p : Policy) (l : Loadable p) (n : ℕ) (text before : List ℕ) (r : Result (Option ℕ) Refusal) (after : List ℕ) (Q : Query)
      → GrantGiven p n text before r after → Asked p l n text Q
      → (said_granting r ≡ said_list 0) ↔ PartitionDetermines l.declared (n - 1) Q
  -- `none` exactly where the partition determines the query with no views of the policy added, whatever the buffer
  pub none_exactly : (p : Policy) (l : Loadable p) (n : ℕ) (text before : List ℕ) (r : Result (Option ℕ) Refusal) (after : List ℕ) (Q : Query)
      → GrantGiven p n text before r after → Asked p l n text Q
      → (said_granting r ≡ said_none) ↔ Hopeless l.declared (n - 1) Q
  -- "If some label holds no view, the reply is `none`, and it is given for no other reason."
  pub none_bare : (p : Policy) (l : Loadable p) (n : ℕ) (text before : List ℕ) (r : Result (Option ℕ) Refusal) (after : List ℕ) (Q : Query)
      → GrantGiven p n text before r after → Asked p l n text Q
      → (said_granting r ≡ said_none) ↔ T (some_bare (labels l.declared.views Q))
  -- "the refusals … are those of explaining"
  pub granting_numbers : (p : Policy) (n : ℕ) (text before : List ℕ) (r : Result (Option ℕ) Refusal) (after : List ℕ)
      → GrantGiven p n text before r after → (said_granting r).word ≡ says_refused → (said_granting r).number ∈ explaining_numbers
  -- `none` and a refusal write nothing, and carry no length
  pub granting_buffer_stays : (p : Policy) (n : ℕ) (text before : List ℕ) (r : Result (Option ℕ) Refusal) (after : List ℕ)
      → GrantGiven p n text before r after → (said_granting r).word ≢ says_list → ((said_granting r).count ≡ 0) × (after ≡ before)
