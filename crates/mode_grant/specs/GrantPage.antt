-- The mode `grant`: request 5, "the shortest list of views to add". The operation's contract is a relation, and so is the page: that of
-- the one list which is the smallest over archives.
use Rattle.std.specs.Prelude.{◌≡◌, List, [], ◌∷◌, ◌++◌, ℕ, ◌-◌}
use Rattle.theory.specs.Query.{Line}
use Rattle.text.specs.Lines.{newline}
use Rattle.text.specs.Names.{bytes}
use Rattle.policy_text.specs.Declared.{Declared}
use Rattle.policy_text.specs.Text.{Loading, refused, accepted, load}
use Rattle.grants.specs.Smallest.{Smallest, Hopeless}
use Rattle.grants.specs.Granting.{Owed, refusal, nothing, list, owed}
use Rattle.writing.specs.Wrote.{Wrote}
use Rattle.page.specs.Refusal.{policy_refused, query_refused}
use Rattle.view_texts.specs.ViewTexts.{view_list}

-- "A settled query gives the empty list"; else the views to add and their text
unfoldable pub grant_lines : List Line → List ℕ → List ℕ
unfolding bytes view_list
grant_lines views [] = bytes "settled" ++ newline ∷ []
grant_lines views (n ∷ ns) = view_list (bytes "add") views (n ∷ ns)

-- "the reply is `none`"
unfoldable pub none_line : List ℕ
unfolding bytes
none_line = bytes "none" ++ newline ∷ []

-- the page of what is owed, for the partition at place i
abbrev pub PageOf : Declared → ℕ → List ℕ → List ℕ → Owed → Type 0
PageOf d i query page (refusal number line) = page ≡ query_refused query number line
PageOf d i query page (nothing Q) = (page ≡ none_line) × Hopeless d i Q
PageOf d i query page (list Q) = (added : List ℕ) × Smallest d i Q added × (page ≡ grant_lines d.views added)

-- for partition n, counted from 1
abbrev pub GrantUnder : Declared → ℕ → List ℕ → List ℕ → Type 0
GrantUnder d n query page = PageOf d (n - 1) query page (owed d n query)

abbrev pub GrantLoaded : List ℕ → ℕ → List ℕ → List ℕ → Loading → Type 0
GrantLoaded policy n query page (refused number line) = page ≡ policy_refused policy number line
GrantLoaded policy n query page (accepted d) = GrantUnder d n query page

-- the page for the bytes of a policy, a partition's number and the bytes of a query
abbrev pub GrantPage : List ℕ → ℕ → List ℕ → List ℕ → Type 0
GrantPage policy n query page = GrantLoaded policy n query page (load policy)

-- such a page stands at the front of the buffer
pub record Writes (Page : List ℕ → Type 0) (was is : List ℕ) (r : ℕ) : Type 0 where
  pub page : List ℕ
  pub is_page : Page page
  pub wrote : Wrote was 0 page is r
