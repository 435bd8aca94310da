-- "explanations by view numbers and the views' own text": a view as its line of the policy says it.
use Rattle.std.specs.Prelude.{◌≡◌, List, [], ◌∷◌, ◌++◌, ℕ, ◌+◌, ◌*◌, ◌-◌, ◌≤◌, length}
use Rattle.theory.specs.Query.{◌∈◌}
use Rattle.theory.specs.Query.{Line as TheLine}
use Rattle.text.specs.Lines.{newline}
use Rattle.model.specs.Limits.{most_columns, most_views}
use Rattle.model.specs.Print.{line_fields, print_line}
use Rattle.model.specs.Value.{line_value}
use Rattle.model.specs.declared.Line.{Line}
use Rattle.model.specs.declared.Policy.{Policy}
use Rattle.policy_text.specs.Declared.{Declared}
use Rattle.entering.specs.Agree.{line_at}
use Rattle.labelling.specs.Text.{LoadedTo}
use Rattle.writing.specs.Wrote.{most_field_bytes, Wrote}
use Rattle.printing.specs.Printing.{most_line_bytes}
use Rattle.page.specs.Numbers.{spaced_numbers}
use Rattle.page.specs.Refusal.{indented}

-- ---- sizes

-- two spaces, the view's number and its text
abbrev pub most_view_text : ℕ
most_view_text = 2 + most_field_bytes + most_line_bytes

-- what is said before the numbers: `views` or `add`
abbrev pub most_title : ℕ
most_title = 5

-- that, the numbers, the end of their line, and the text of so many views
abbrev pub most_list : ℕ → ℕ
most_list count = most_title + 1 + count * (most_field_bytes + most_view_text)

-- ---- what is printed

-- a view's line: its number, its table and its terms, as in the policy
unfoldable pub view_text : ℕ → TheLine → List ℕ
unfolding indented print_line line_fields
view_text n A = indented (print_line n (line_fields A))

-- of each of these numbers
unfoldable pub view_texts : List TheLine → List ℕ → List ℕ
unfolding view_text line_at
view_texts views [] = []
view_texts views (n ∷ ns) = view_text n (line_at views (n - 1)) ++ view_texts views ns

unfoldable pub view_list : List ℕ → List TheLine → List ℕ → List ℕ
unfolding spaced_numbers view_texts
view_list said views ns = said ++ spaced_numbers ns ++ newline ∷ view_texts views ns

-- ---- what is written

-- numbers that a view can have
abbrev pub InRange : List ℕ → Type 0
InRange ns = (n : ℕ) → n ∈ ns → (1 ≤ n) × (n ≤ most_views)

abbrev pub ViewPut : ℕ → Line → List ℕ → ℕ → List ℕ → ℕ → Type 0
ViewPut n view was at is r = (A : TheLine) → view ≡ line_value A → length A.columns ≤ most_columns → Wrote was at (view_text n A) is r

-- under whatever text the policy was loaded from
abbrev pub ViewsPut : Policy → List ℕ → List ℕ → ℕ → List ℕ → ℕ → Type 0
ViewsPut p ns was at is r = (d : Declared) → LoadedTo p d → Wrote was at (view_texts d.views ns) is r

abbrev pub ListPut : List ℕ → Policy → List ℕ → List ℕ → ℕ → List ℕ → ℕ → Type 0
ListPut said p ns was at is r = (d : Declared) → LoadedTo p d → Wrote was at (view_list said d.views ns) is r
