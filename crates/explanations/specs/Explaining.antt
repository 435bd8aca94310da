-- Document 01, "Explaining".
use Rattle.std.specs.Prelude.{◌≡◌, Bool, true, false, cond, List, [], ℕ, ◌-◌, length, get_or, Result, Ok, Err}
use Rattle.theory.specs.Executable.Label.{labels}
use Rattle.model.specs.Limits.{up_to}
use Rattle.model.specs.declared.Policy.{Policy}
use Rattle.model.specs.declared.Refusal.{Refusal}
use Rattle.query_text.specs.Text.{Reading, refused, accepted, read}
use Rattle.policy_text.specs.Declared.{Declared}
use Rattle.policy_text.specs.Policy.{views_word}
use Rattle.validity.specs.Loadable.{Loadable}
use Rattle.labelling.specs.Settled.{settled}
use Rattle.explain.specs.Explanation.{explained}
use Rattle.label_lists.specs.Buffer.{too_short, headed}
use Rattle.explanations.specs.declared.Explaining.{Explaining}

-- what the reply says: whether an explanation is given, whether the partition settles the query, the list's length, the
-- refusal's number and its line
pub record SaidExplaining : Type 0 where
  pub given : Bool
  pub settles : Bool
  pub count : ℕ
  pub number : ℕ
  pub line : ℕ

unfoldable pub said_explaining : Result Explaining Refusal → SaidExplaining
said_explaining (Ok x) = record { given = true; settles = x.is_settled; count = x.count; number = 0; line = 0 }
said_explaining (Err e) = record { given = false; settles = false; count = 0; number = e.number; line = e.line }

-- what is said, and what the lent buffer then holds
pub record Explained : Type 0 where
  pub says : SaidExplaining
  pub holds : List ℕ

unfoldable pub not_explained : List ℕ → ℕ → ℕ → Explained
not_explained buffer number line =
    record { says = record { given = false; settles = false; count = 0; number = number; line = line }; holds = buffer }

-- "then 10"; "the reply carries the list's length"
unfoldable pub explained_by : List ℕ → Bool → List ℕ → Explained
unfolding not_explained
explained_by buffer settles ws =
    cond (too_short buffer ws) (not_explained buffer 10 0)
    (record { says = record { given = true; settles = settles; count = length ws; number = 0; line = 0 }; holds = headed ws buffer })

-- the explanation of the text's query for partition n
unfoldable pub explain_reading : Declared → ℕ → List ℕ → Reading → Explained
unfolding not_explained explained_by settled explained labels views_word
explain_reading d n buffer (refused k line) = not_explained buffer k line
explain_reading d n buffer (accepted Q) =
    let views = views_word (get_or d.partitions (n - 1) []) in
    let ws = labels d.views Q in explained_by buffer (settled views ws) (explained views ws)

-- "Then 4 at line 0: no such partition. Then the text"
unfoldable pub explain_under : Declared → ℕ → List ℕ → List ℕ → Explained
unfolding not_explained explain_reading up_to read
explain_under d n text buffer =
    cond (up_to (length d.partitions) n) (explain_reading d n buffer (read d.widths text)) (not_explained buffer 4 0)

-- a reply and the buffer after the call
pub record Explains (r : Result Explaining Refusal) (after : List ℕ) (o : Explained) : Type 0 where
  pub reply : said_explaining r ≡ o.says
  pub buffer : after ≡ o.holds

-- "Explaining. 8. Then 4 …"
pub record ExplanationGiven (p : Policy) (n : ℕ) (text before : List ℕ) (r : Result Explaining Refusal) (after : List ℕ) : Type 0 where
  pub unloaded : (Loadable p → ⊥) → Explains r after (not_explained before 8 0)
  pub loaded : (l : Loadable p) → Explains r after (explain_under l.declared n text before)
