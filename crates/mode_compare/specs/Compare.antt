-- The mode `compare`: two arguments, each a numeral as in the texts.
use Rattle.std.specs.Prelude.{Bool, cond, List, [], ◌∷◌, ◌++◌, ℕ}
use Rattle.text.specs.Lines.{newline}
use Rattle.text.specs.Names.{bytes}
use Rattle.text.specs.Value.{numeral_value}
use Rattle.text.specs.declared.Numeral.{Numeral}
use Rattle.text.specs.declared.Numeral.TheVariants.{Malformed, Large, Value}
use Rattle.label_order.specs.Order.{at_or_below}
use Rattle.page.specs.Refusal.{query_refused}

-- "Comparing labels. Any two words; none."
unfoldable pub answer : Bool → List ℕ
unfolding bytes
answer below = cond below (bytes "yes") (bytes "no") ++ newline ∷ []

-- an argument that is no numeral meets 1, one past 64 bits 2; with any other the page goes on
unfoldable pub with_number : List ℕ → Numeral → (ℕ → List ℕ) → List ℕ
unfolding query_refused
with_number said Malformed page = query_refused said 1 0
with_number said Large page = query_refused said 2 0
with_number said (Value n) page = page n

unfoldable pub compared_with : ℕ → List ℕ → List ℕ
unfolding with_number numeral_value answer at_or_below
compared_with x y = with_number y (numeral_value y) (λ n. answer (at_or_below x n))

-- the page for the bytes of two arguments
unfoldable pub compare_page : List ℕ → List ℕ → List ℕ
unfolding with_number numeral_value compared_with
compare_page x y = with_number x (numeral_value x) (λ n. compared_with n y)
