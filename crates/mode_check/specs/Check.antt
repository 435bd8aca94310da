-- The mode `check`: a policy text alone.
use Rattle.std.specs.Prelude.{List, [], ◌∷◌, ◌++◌, ℕ, length}
use Rattle.text.specs.Lines.{newline}
use Rattle.text.specs.Names.{bytes}
use Rattle.policy_text.specs.Text.{Loading, refused, accepted, load}
use Rattle.page.specs.Numbers.{spaced_numbers}
use Rattle.page.specs.Refusal.{policy_refused}

-- what is said of a policy that loads: `policy accepted TABLES VIEWS PARTITIONS`
unfoldable pub counted : List ℕ → List ℕ
unfolding bytes spaced_numbers
counted counts = bytes "policy accepted" ++ spaced_numbers counts ++ newline ∷ []

unfoldable pub checked : List ℕ → Loading → List ℕ
unfolding counted policy_refused
checked policy (refused number line) = policy_refused policy number line
checked policy (accepted d) = counted (length d.widths ∷ length d.views ∷ length d.partitions ∷ [])

-- the page for the bytes of a policy
unfoldable pub check_page : List ℕ → List ℕ
unfolding checked load
check_page policy = checked policy (load policy)
