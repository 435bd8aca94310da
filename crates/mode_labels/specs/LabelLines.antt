-- The mode `labels`: a line `label WORD table TABLE views N N ...` for each label.
use Rattle.std.specs.Prelude.{List, [], ◌∷◌, ◌++◌, ℕ, ◌+◌, ◌*◌, ◌/◌, ◌%◌, ◌^◌}
use Rattle.words.specs.Bits.{half_bits}
use Rattle.text.specs.Lines.{space, newline}
use Rattle.text.specs.Names.{bytes}
use Rattle.text.specs.Print.{decimal}
use Rattle.theory.specs.Executable.Label.{labels}
use Rattle.model.specs.Limits.{most_views}
use Rattle.query_text.specs.Text.{Reading, read}
use Rattle.query_text.specs.Text.{refused as turned_back, accepted as read_as}
use Rattle.policy_text.specs.Declared.{Declared}
use Rattle.policy_text.specs.Text.{Loading, refused, accepted, load}
use Rattle.word_list.specs.Order.{ascending}
use Rattle.writing.specs.Wrote.{most_field_bytes}
use Rattle.page.specs.Numbers.{views_of_word, spaced_numbers}
use Rattle.page.specs.Refusal.{policy_refused, query_refused}

-- the most bytes of a label's line: its words, its two numbers, its views and its end
abbrev pub most_label : ℕ
most_label = 18 + (2 + most_views) * most_field_bytes

-- "the low 32 bits hold the table number and the high 32 bits the views"
unfoldable pub label_line : ℕ → List ℕ
unfolding bytes decimal views_of_word spaced_numbers
label_line w =
    bytes "label" ++ space ∷ decimal w ++ bytes " table" ++ space ∷ decimal (w % 2 ^ half_bits) ++ bytes " views"
    ++ spaced_numbers (views_of_word (w / 2 ^ half_bits))
    ++ newline ∷ []

unfoldable pub label_lines : List ℕ → List ℕ
unfolding label_line
label_lines [] = []
label_lines (w ∷ ws) = label_line w ++ label_lines ws

-- "labels come ascending as 64-bit numbers, equal ones repeated" (document 02, request 2), or what turns the query text back
unfoldable pub labels_read : Declared → List ℕ → Reading → List ℕ
unfolding label_lines ascending labels query_refused
labels_read d query (turned_back number line) = query_refused query number line
labels_read d query (read_as Q) = label_lines (ascending (labels d.views Q))

unfoldable pub labels_under : Declared → List ℕ → List ℕ
unfolding labels_read read
labels_under d query = labels_read d query (read d.widths query)

unfoldable pub labels_loaded : List ℕ → List ℕ → Loading → List ℕ
unfolding labels_under policy_refused
labels_loaded policy query (refused number line) = policy_refused policy number line
labels_loaded policy query (accepted d) = labels_under d query

-- the page for the bytes of a policy and of a query
unfoldable pub labels_page : List ℕ → List ℕ → List ℕ
unfolding labels_loaded load
labels_page policy query = labels_loaded policy query (load policy)
