-- What holds of every call of `import_rule`: what the text written means over archives, that it is well formed, a refusal's numbers, and
-- which bytes stay.
use Rattle.std.specs.Prelude.{◌≡◌, ◌↔◌, List, [], ◌∷◌, ℕ, ◌+◌, ◌≤◌, length, take, drop, Result}
use Rattle.std.proofs.Math.Option.{some}
use Rattle.theory.specs.Query.{shown, Line, Query, ◌∈◌}
use Rattle.theory.specs.Archive.{Archive, Answer}
use Rattle.model.specs.declared.Policy.{Policy}
use Rattle.model.specs.declared.Refusal.{Refusal}
use Rattle.query_text.specs.Text.{accepted, read, most_query_bytes}
use Rattle.validity.specs.Loadable.{Loadable}
use Rattle.rules.specs.Rule.{Name, Rule}
use Rattle.rules.specs.Meaning.{RuleAnswer}
use Rattle.rules.specs.Text.{rule_of}
use Rattle.rules.specs.Numbering.{number_of}
use Rattle.import.specs.Import.{said_import, says_written, says_refused, ImportGiven}

-- what turns an import back: "8 first, then … 7", "1, 7, 2, 4 and 5", 11, 12, "and 10 comes last"
abbrev pub import_numbers : List ℕ
import_numbers = 8 ∷ 7 ∷ 1 ∷ 2 ∷ 4 ∷ 5 ∷ 11 ∷ 12 ∷ 10 ∷ []

-- the bytes that a call wrote
abbrev pub bytes_at : ℕ → ℕ → List ℕ → List ℕ
bytes_at place n buffer = take n (drop place buffer)

-- the query has the rule's answers on every archive, "values matched by variable and not by place in the head": s gives a variable's number
-- what u gives its name
abbrev pub SameAnswers : Rule → Query → Type 0
SameAnswers x Q =
    (D : Archive) (u : Name → ℕ) (s : ℕ → ℕ) → ((y : Name) → y ∈ x.head → s (number_of x y) ≡ u y) → RuleAnswer x D u ↔ Answer Q D s

-- the query shows n
abbrev pub ShownIn : Query → ℕ → Type 0
ShownIn Q n = (A : Line) × (A ∈ Q) × (shown n ∈ A.columns)

-- the rule that was handed in, and the query that the text reads as under the policy: its shown variables are those of the head, each with
-- a number of its own, and its answers are the rule's
pub record TextMeans (widths rule : List ℕ) (written : List ℕ) : Type 0 where
  pub the_rule : Rule
  pub parses : rule_of rule ≡ some the_rule
  pub query : Query
  pub reads : read widths written ≡ accepted query
  pub shows : (n : ℕ) → ShownIn query n ↔ ((y : Name) × (y ∈ the_rule.head) × (number_of the_rule y ≡ n))
  pub apart : (y z : Name) → y ∈ the_rule.head → z ∈ the_rule.head → number_of the_rule y ≡ number_of the_rule z → y ≡ z
  pub answers : SameAnswers the_rule query

pub record Outcomes : Type 0 where
  -- two replies to one call are the same, and so are the buffers they leave
  pub one_outcome : (p : Policy) (rule : List ℕ) (place : ℕ) (before : List ℕ) (r t : Result ℕ Refusal) (after then : List ℕ)
      → ImportGiven p rule place before r after → ImportGiven p rule place before t then → (r ≡ t) × (after ≡ then)
  -- "The text written must have the rule's answers on every archive"
  pub imported : (p : Policy) (l : Loadable p) (rule : List ℕ) (place : ℕ) (before : List ℕ) (r : Result ℕ Refusal) (after : List ℕ)
      → ImportGiven p rule place before r after → (said_import r).word ≡ says_written
      → TextMeans l.declared.widths rule (bytes_at place (said_import r).bytes after)
  -- a query text of at most 4,096 bytes
  pub import_short : (p : Policy) (rule : List ℕ) (place : ℕ) (before : List ℕ) (r : Result ℕ Refusal) (after : List ℕ)
      → ImportGiven p rule place before r after → (said_import r).bytes ≤ most_query_bytes
  -- a refusal has one of the numbers, and nothing is written
  pub import_numbers_lem : (p : Policy) (rule : List ℕ) (place : ℕ) (before : List ℕ) (r : Result ℕ Refusal) (after : List ℕ)
      → ImportGiven p rule place before r after → (said_import r).word ≡ says_refused
      → ((said_import r).number ∈ import_numbers) × ((said_import r).bytes ≡ 0) × (after ≡ before)
  -- "all other bytes stay"
  pub others_stay : (p : Policy) (rule : List ℕ) (place : ℕ) (before : List ℕ) (r : Result ℕ Refusal) (after : List ℕ)
      → ImportGiven p rule place before r after
      → (length after ≡ length before) × (take place after ≡ take place before)
      × (drop (place + (said_import r).bytes) after ≡ drop (place + (said_import r).bytes) before)
