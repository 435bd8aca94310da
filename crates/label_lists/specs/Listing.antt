-- Document 01, "Labels".
use Rattle.std.specs.Prelude.{◌≡◌, Bool, true, false, cond, List, ℕ, length, Result, Ok, Err}
use Rattle.theory.specs.Executable.Label.{labels}
use Rattle.word_list.specs.Order.{ascending}
use Rattle.model.specs.declared.Policy.{Policy}
use Rattle.model.specs.declared.Refusal.{Refusal}
use Rattle.query_text.specs.Text.{Reading, refused, accepted, read}
use Rattle.policy_text.specs.Declared.{Declared}
use Rattle.validity.specs.Loadable.{Loadable}
use Rattle.label_lists.specs.Buffer.{too_short, headed}

-- what the reply says: whether labels are given, "the list's length", the refusal's number and its line
pub record SaidListing : Type 0 where
  pub given : Bool
  pub count : ℕ
  pub number : ℕ
  pub line : ℕ

unfoldable pub said_listing : Result ℕ Refusal → SaidListing
said_listing (Ok n) = record { given = true; count = n; number = 0; line = 0 }
said_listing (Err e) = record { given = false; count = 0; number = e.number; line = e.line }

-- what is said, and what the lent buffer then holds
pub record Listed : Type 0 where
  pub says : SaidListing
  pub holds : List ℕ

-- "On any refusal … lent buffers stay, no value is given, and a count in the reply is 0."
unfoldable pub not_listed : List ℕ → ℕ → ℕ → Listed
not_listed buffer number line = record { says = record { given = false; count = 0; number = number; line = line }; holds = buffer }

-- "the reply carries the list's length"
unfoldable pub given : List ℕ → List ℕ → Listed
given ws buffer =
    record { says = record { given = true; count = length ws; number = 0; line = 0 }; holds = headed ws buffer }

-- the list, or 10
unfoldable pub listed : List ℕ → List ℕ → Listed
unfolding not_listed given
listed buffer ws = cond (too_short buffer ws) (not_listed buffer 10 0) (given ws buffer)

-- the labels of the text's query, "ascending as 64-bit numbers, equal ones repeated" (document 02, request 2)
unfoldable pub list_reading : Declared → List ℕ → Reading → Listed
unfolding not_listed listed labels ascending
list_reading d buffer (refused n k) = not_listed buffer n k
list_reading d buffer (accepted Q) = listed buffer (ascending (labels d.views Q))

-- a reply and the buffer after the call
pub record Lists (r : Result ℕ Refusal) (after : List ℕ) (o : Listed) : Type 0 where
  pub reply : said_listing r ≡ o.says
  pub buffer : after ≡ o.holds

-- "Labels. 8, the text as above, then 10"
pub record LabelsGiven (p : Policy) (text before : List ℕ) (r : Result ℕ Refusal) (after : List ℕ) : Type 0 where
  pub unloaded : (Loadable p → ⊥) → Lists r after (not_listed before 8 0)
  pub loaded : (l : Loadable p) → Lists r after (list_reading l.declared before (read l.declared.widths text))
