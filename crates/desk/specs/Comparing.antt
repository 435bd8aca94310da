-- Document 01, "Comparing labels", and document 02, request 7: what the order of labels says of archives.
use Rattle.std.specs.Prelude.{◌≡◌, ◌↔◌, Bool, true, List, [], ◌∷◌, ℕ, ◌<◌, get_or, Result}
use Rattle.theory.specs.Query.{Line, Query, ◌∈◌, Fits}
use Rattle.theory.specs.Archive.{Determines}
use Rattle.theory.specs.Reduce.{ReducesTo}
use Rattle.theory.specs.Show.{Shown}
use Rattle.model.specs.declared.Policy.{Policy}
use Rattle.model.specs.declared.Refusal.{Refusal}
use Rattle.query_text.specs.Text.{read}
use Rattle.query_text.specs.Text.{accepted as read_as}
use Rattle.policy_text.specs.Declared.{Declared}
use Rattle.policy_text.specs.WellFormed.{WellFormed}
use Rattle.validity.specs.Loadable.{Loadable}
use Rattle.label_order.specs.Order.{at_or_below}
use Rattle.label_lists.specs.Listing.{said_listing, LabelsGiven}
use Rattle.desk.specs.Rewriting.{LabelOf}

-- x is one of the words that a call of `labels` gave: a cell before the reply's count
abbrev pub Gave : Result ℕ Refusal → List ℕ → ℕ → Type 0
Gave r after x = (k : ℕ) × (k < (said_listing r).count) × (get_or after k 0 ≡ x)

module _ (d : Declared) where
  -- "each single view of that policy that determines the second line's answers determines the first line's too"
  abbrev pub DeterminedWith : Line → Line → Type 0
  DeterminedWith A B =
      (v : Line) → v ∈ d.views → Determines d.widths (v ∷ []) (B ∷ []) → Determines d.widths (v ∷ []) (A ∷ [])

  -- A is a line of the text's query, reduced and "shared variables shown", and x is its label
  pub record LabelledLine (text : List ℕ) (A : Line) (x : ℕ) : Type 0 where
    pub query : Query
    pub reads : read d.widths text ≡ read_as query
    pub form : Query
    pub reduces : ReducesTo query form
    pub shown : Query
    pub shows : Shown form shown
    pub line : A ∈ shown
    pub label : LabelOf d A x

  -- what the answer to a comparison of two words says, x given for one text and y for another
  pub record Compared (text other : List ℕ) (x y : ℕ) (r : Bool) : Type 0 where
    pub first : (A : Line) × LabelledLine text A x
    pub second : (B : Line) × LabelledLine other B y
    -- of whichever lines these are the labels
    pub exactly : (A B : Line) → LabelledLine text A x → LabelledLine other B y → (r ≡ true) ↔ DeterminedWith A B

pub record OverArchives : Type 0 where
  -- "For two words that are labels of lines … under one policy": of any two lines that fit its tables
  pub of_lines : (d : Declared) → WellFormed d → (A B : Line) → Fits d.widths A → Fits d.widths B
      → (x y : ℕ) → LabelOf d A x → LabelOf d B y → (r : Bool) → r ≡ at_or_below x y → (r ≡ true) ↔ DeterminedWith d A B
  -- of any two words that two calls of `labels` gave under one loaded policy, for one query or two
  pub of_calls : (p : Policy) (l : Loadable p) (text other before lent : List ℕ) (g h : Result ℕ Refusal) (after then : List ℕ)
      → LabelsGiven p text before g after → LabelsGiven p other lent h then
      → (x y : ℕ) → Gave g after x → Gave h then y → (r : Bool) → r ≡ at_or_below x y → Compared l.declared text other x y r
