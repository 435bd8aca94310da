-- The mode `explain`: "explanations by view numbers and the views' own text".
use Rattle.std.specs.Prelude.{Bool, cond, List, [], ◌∷◌, ◌++◌, ℕ, ◌-◌, length, get_or}
use Rattle.theory.specs.Query.{Line}
use Rattle.theory.specs.Executable.Label.{labels}
use Rattle.text.specs.Lines.{newline}
use Rattle.text.specs.Names.{bytes}
use Rattle.model.specs.Limits.{most_views, up_to}
use Rattle.model.specs.declared.Policy.{Policy}
use Rattle.query_text.specs.Text.{Reading, read}
use Rattle.query_text.specs.Text.{refused as turned_back, accepted as read_as}
use Rattle.policy_text.specs.Declared.{Declared}
use Rattle.policy_text.specs.Policy.{views_word}
use Rattle.policy_text.specs.Text.{Loading, refused, accepted, load}
use Rattle.validity.specs.Loadable.{Loadable}
use Rattle.labelling.specs.Settled.{settled}
use Rattle.explain.specs.Explanation.{explained}
use Rattle.writing.specs.Wrote.{Wrote}
use Rattle.page.specs.Numbers.{views_of_word}
use Rattle.page.specs.Refusal.{policy_refused, query_refused}
use Rattle.view_texts.specs.ViewTexts.{most_list, view_list}

-- ---- sizes

-- a word's views and their text
abbrev pub most_word : ℕ
most_word = most_list most_views

-- `not settled` and its end
abbrev pub most_first : ℕ
most_first = 12

-- ---- what is printed

-- the views of a word and their text; "A word 0 means that no view would do"
unfoldable pub view_lines : List Line → List ℕ → List ℕ
unfolding bytes view_list
view_lines views [] = bytes "views none" ++ newline ∷ []
view_lines views (n ∷ ns) = view_list (bytes "views") views (n ∷ ns)

unfoldable pub word_lines : List Line → List ℕ → List ℕ
unfolding view_lines views_of_word
word_lines views [] = []
word_lines views (w ∷ ws) = view_lines views (views_of_word w) ++ word_lines views ws

-- "The reply says settled or not", and then the words; "Words ascend as numbers"
unfoldable pub explanation : List Line → Bool → List ℕ → List ℕ
unfolding bytes word_lines
explanation views settles ws = cond settles (bytes "settled") (bytes "not settled") ++ newline ∷ word_lines views ws

-- the explanation of the text's query for partition n, or what turns the query text back
unfoldable pub explain_read : Declared → ℕ → List ℕ → Reading → List ℕ
unfolding explanation settled explained labels views_word query_refused
explain_read d n query (turned_back number line) = query_refused query number line
explain_read d n query (read_as Q) =
    let granted = views_word (get_or d.partitions (n - 1) []) in
    let ws = labels d.views Q in explanation d.views (settled granted ws) (explained granted ws)

-- "4 at line 0: no such partition. Then the text"
unfoldable pub explain_under : Declared → ℕ → List ℕ → List ℕ
unfolding explain_read up_to read query_refused
explain_under d n query =
    cond (up_to (length d.partitions) n) (explain_read d n query (read d.widths query)) (query_refused query 4 0)

unfoldable pub explain_loaded : List ℕ → ℕ → List ℕ → Loading → List ℕ
unfolding explain_under policy_refused
explain_loaded policy n query (refused number line) = policy_refused policy number line
explain_loaded policy n query (accepted d) = explain_under d n query

-- the page for the bytes of a policy, a partition's number and the bytes of a query
unfoldable pub explain_page : List ℕ → ℕ → List ℕ → List ℕ
unfolding explain_loaded load
explain_page policy n query = explain_loaded policy n query (load policy)

-- ---- what is written, under whatever text the policy was loaded from

abbrev pub WordPut : Policy → ℕ → List ℕ → ℕ → List ℕ → ℕ → Type 0
WordPut p word was at is r = (l : Loadable p) → Wrote was at (view_lines l.declared.views (views_of_word word)) is r

abbrev pub WordsPut : Policy → List ℕ → List ℕ → ℕ → List ℕ → ℕ → Type 0
WordsPut p ws was at is r = (l : Loadable p) → Wrote was at (word_lines l.declared.views ws) is r
