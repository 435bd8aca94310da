-- What holds of every call of the desk's operations: what is accepted, one outcome, a refusal's number and what it leaves; and what
-- settled means.
use Rattle.std.specs.Prelude.{◌≡◌, Result, Err, ◌↔◌, ◌⊎◌, true, false, List, [], ◌∷◌, ◌++◌, ℕ, ◌-◌}
use Rattle.theory.specs.Query.{Query, ◌∈◌}
use Rattle.model.specs.declared.Policy.{Policy}
use Rattle.model.specs.declared.Refusal.{Refusal}
use Rattle.query_text.specs.Text.{query_numbers, read}
use Rattle.query_text.specs.Text.{accepted as read_as}
use Rattle.query_text.specs.Print.{query_text}
use Rattle.query_text.specs.WellRead.{WellRead}
use Rattle.policy_text.specs.Text.{policy_numbers, load, accepted}
use Rattle.policy_text.specs.Declared.{Declared, PartitionDetermines}
use Rattle.policy_text.specs.WellFormed.{WellFormed}
use Rattle.policy_text.specs.Print.{print}
use Rattle.validity.specs.Loadable.{Loadable}
use Rattle.load.specs.Value.{loading_value}
use Rattle.sessions.specs.declared.opening.Session.{Session}
use Rattle.sessions.specs.declared.replies.Decision.{Decision}
use Rattle.sessions.specs.Reply.{said, yes, no, refused}
use Rattle.sessions.specs.Deciding.{unfit, Decided}
use Rattle.sessions.specs.Opening.{Opened}
use Rattle.label_lists.specs.Listing.{said_listing, LabelsGiven}
use Rattle.explanations.specs.declared.Explaining.{Explaining}
use Rattle.explanations.specs.Explaining.{said_explaining, ExplanationGiven}

-- "Deciding. 8. Then 9 … Then the text"
abbrev pub deciding_numbers : List ℕ
deciding_numbers = 8 ∷ 9 ∷ query_numbers

-- "Labels. 8, the text as above, then 10"
abbrev pub labels_numbers : List ℕ
labels_numbers = 8 ∷ query_numbers ++ 10 ∷ []

-- "Explaining. 8. Then 4 … Then the text, then 10."
abbrev pub explaining_numbers : List ℕ
explaining_numbers = 8 ∷ 4 ∷ query_numbers ++ 10 ∷ []

pub record Outcomes : Type 0 where
  -- the texts that are accepted, from the other side: what is well formed, printed
  pub policies : (text : List ℕ) (d : Declared) → (load text ≡ accepted d) ↔ (WellFormed d × (text ≡ print d))
  pub queries : (widths text : List ℕ) (Q : Query) → (read widths text ≡ read_as Q) ↔ (WellRead widths Q × (text ≡ query_text Q))
  -- one outcome of each call
  pub one_loading : (text : List ℕ) (r t : Result Policy Refusal) → r ≡ loading_value (load text) → t ≡ loading_value (load text) → r ≡ t
  pub one_opening : (p : Policy) (r t : Result Session Refusal) → Opened p r → Opened p t → r ≡ t
  pub one_decision : (p : Policy) (s : Session) (text : List ℕ) (r t : Decision) → Decided p s text r → Decided p s text t → r ≡ t
  pub one_listing : (p : Policy) (text before : List ℕ) (r t : Result ℕ Refusal) (after then : List ℕ)
      → LabelsGiven p text before r after → LabelsGiven p text before t then → (r ≡ t) × (after ≡ then)
  pub one_explanation : (p : Policy) (n : ℕ) (text before : List ℕ) (r t : Result Explaining Refusal) (after then : List ℕ)
      → ExplanationGiven p n text before r after → ExplanationGiven p n text before t then → (r ≡ t) × (after ≡ then)
  -- a well-formed policy, session and query
  pub yes_or_no : (p : Policy) (l : Loadable p) (s : Session) (text : List ℕ) (r : Decision) → Decided p s text r
      → unfit l.declared s ≡ false → (Q : Query) → read l.declared.widths text ≡ read_as Q
      → ((said r.reply).word ≡ yes) ⊎ ((said r.reply).word ≡ no)
  -- "Everything else is turned back by one of its listed numbers"
  pub loading_numbers : (text : List ℕ) (r : Refusal) → Err r ≡ loading_value (load text) → r.number ∈ policy_numbers
  pub opening_numbers : (p : Policy) (r : Refusal) → Opened p (Err r) → (r.number ≡ 8) × (r.line ≡ 0)
  pub deciding_numbers_lem : (p : Policy) (s : Session) (text : List ℕ) (r : Decision) → Decided p s text r
      → (said r.reply).word ≡ refused → (said r.reply).number ∈ deciding_numbers
  pub labels_numbers_lem : (p : Policy) (text before : List ℕ) (r : Result ℕ Refusal) (after : List ℕ) → LabelsGiven p text before r after
      → (said_listing r).given ≡ false → (said_listing r).number ∈ labels_numbers
  pub explaining_numbers_lem : (p : Policy) (n : ℕ) (text before : List ℕ) (r : Result Explaining Refusal) (after : List ℕ)
      → ExplanationGiven p n text before r after → (said_explaining r).given ≡ false → (said_explaining r).number ∈ explaining_numbers
  -- a refusal
  pub session_stays : (p : Policy) (s : Session) (text : List ℕ) (r : Decision) → Decided p s text r
      → (said r.reply).word ≡ refused → r.session ≡ s
  pub labels_buffer_stays : (p : Policy) (text before : List ℕ) (r : Result ℕ Refusal) (after : List ℕ) → LabelsGiven p text before r after
      → (said_listing r).given ≡ false → after ≡ before
  pub explaining_buffer_stays : (p : Policy) (n : ℕ) (text before : List ℕ) (r : Result Explaining Refusal) (after : List ℕ)
      → ExplanationGiven p n text before r after → (said_explaining r).given ≡ false → after ≡ before

-- Where `explain` gives an explanation, it says settled exactly where the partition, counted from 1, determines the query.
abbrev pub SettledExactly : Type 0
SettledExactly =
    (p : Policy) (l : Loadable p) (n : ℕ) (text before : List ℕ) (r : Result Explaining Refusal) (after : List ℕ)
    → ExplanationGiven p n text before r after → (said_explaining r).given ≡ true
    → (Q : Query) → read l.declared.widths text ≡ read_as Q
    → ((said_explaining r).settles ≡ true) ↔ PartitionDetermines l.declared (n - 1) Q
