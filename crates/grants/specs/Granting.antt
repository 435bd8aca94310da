-- Request 5, "The smallest extra grant": the contract of `smallest_grant`.
use Rattle.std.specs.Prelude.{◌≡◌, Bool, cond, List, ℕ, ◌-◌, ◌≤◌, ◌<◌, eqb, length, Option, Some, None, Result, Ok, Err}
use Rattle.theory.specs.Query.{Query}
use Rattle.theory.specs.Executable.Test.{any}
use Rattle.theory.specs.Executable.Label.{labels}
use Rattle.model.specs.Limits.{up_to}
use Rattle.model.specs.declared.Policy.{Policy}
use Rattle.model.specs.declared.Refusal.{Refusal}
use Rattle.query_text.specs.Text.{Reading, refused, accepted, read}
use Rattle.policy_text.specs.Declared.{Declared}
use Rattle.validity.specs.Loadable.{Loadable}
use Rattle.explain.specs.Explanation.{views_of}
use Rattle.label_lists.specs.Buffer.{headed}
use Rattle.grants.specs.Smallest.{Smallest, Hopeless}

-- ---- the reply

-- a list, "the reply is `none`", or a refusal
pub data Word : Type 0 where
  says_list : Word
  says_none : Word
  says_refused : Word

-- what the reply says: its word, the list's length, the refusal's number and its line
pub record SaidGranting : Type 0 where
  pub word : Word
  pub count : ℕ
  pub number : ℕ
  pub line : ℕ

-- document 01, of explaining, "the reply carries the list's length"
abbrev pub said_list : ℕ → SaidGranting
said_list n = record { word = says_list; count = n; number = 0; line = 0 }

-- "the reply is `none`"
abbrev pub said_none : SaidGranting
said_none = record { word = says_none; count = 0; number = 0; line = 0 }

-- document 01, "a count in the reply is 0"
abbrev pub said_refused : (number line : ℕ) → SaidGranting
said_refused n k = record { word = says_refused; count = 0; number = n; line = k }

-- of each case of the reply
unfoldable pub said_granting : Result (Option ℕ) Refusal → SaidGranting
said_granting (Ok (Some n)) = said_list n
said_granting (Ok None) = said_none
said_granting (Err e) = said_refused e.number e.line

-- ---- what a call owes

-- a refusal, `none`, or the smallest list for the query as handed in
pub data Owed : Type 0 where
  refusal : (number line : ℕ) → Owed
  nothing : Query → Owed
  list : Query → Owed

-- "some label holds no view"
unfoldable pub some_bare : List ℕ → Bool
unfolding any views_of
some_bare ws = any (λ w. eqb (views_of w) 0) ws

-- "If some label holds no view, the reply is `none`, and it is given for no other reason."
unfoldable pub owed_for : Declared → Reading → Owed
unfolding some_bare labels
owed_for d (refused k line) = refusal k line
owed_for d (accepted Q) = cond (some_bare (labels d.views Q)) (nothing Q) (list Q)

-- "The buffer, the refusals and their order are those of explaining": 4 at line 0, then the text, then 10
unfoldable pub owed : Declared → ℕ → List ℕ → Owed
unfolding owed_for up_to read
owed d n text = cond (up_to (length d.partitions) n) (owed_for d (read d.widths text)) (refusal 4 0)

-- ---- what the reply says and the buffer holds then

-- what is said, and what the lent buffer holds after the call
pub record Replies (r : Result (Option ℕ) Refusal) (after : List ℕ) (said : SaidGranting) (holds : List ℕ) : Type 0 where
  pub reply : said_granting r ≡ said
  pub buffer : after ≡ holds

-- "10: the lent buffer is shorter than the list", or the list at its head, "Numbers past the list stay"
pub record Written (r : Result (Option ℕ) Refusal) (before after added : List ℕ) : Type 0 where
  pub short : length before < length added → Replies r after (said_refused 10 0) before
  pub room : length added ≤ length before → Replies r after (said_list (length added)) (headed added before)

-- for each of the three, and the partition at place i, counted from 0
abbrev pub Gives : Declared → ℕ → Result (Option ℕ) Refusal → (before after : List ℕ) → Owed → Type 0
Gives d i r before after (refusal number line) = Replies r after (said_refused number line) before
Gives d i r before after (nothing Q) = Replies r after said_none before × Hopeless d i Q
Gives d i r before after (list Q) = (added : List ℕ) × Smallest d i Q added × Written r before after added

-- a call for partition n, counted from 1, with a buffer as it was before and is after
pub record GrantGiven (p : Policy) (n : ℕ) (text before : List ℕ) (r : Result (Option ℕ) Refusal) (after : List ℕ) : Type 0 where
  pub unloaded : (Loadable p → ⊥) → Replies r after (said_refused 8 0) before
  pub loaded : (l : Loadable p) → Gives l.declared (n - 1) r before after (owed l.declared n text)
