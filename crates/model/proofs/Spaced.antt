-- Terms as they are written behind a line's table: one more behind others, and all those of a line.
use mathlib.Core.Path.{◌≡◌, sym, ap, ◌∙◌}
use mathlib.Core.List.{List, [], ◌∷◌, ◌++◌, map, append-nil, append_assoc}
use Prim.Native.Nat.{ℕ}
use Rattle.theory.specs.Query.{Term, Line}
use Rattle.text.specs.Lines.{space}
use Rattle.text.specs.Print.{decimal, joined}
use Rattle.model.specs.Print.{print_term, spaced, line_fields, print_query_line}

pub spaced_more : (ts : List Term) (u : Term) → spaced (ts ++ u ∷ []) ≡ spaced ts ++ space ∷ print_term u
unfolding spaced
spaced_more [] u = ap (λ (l : List ℕ). space ∷ l) (append-nil (print_term u))
spaced_more (t ∷ ts) u =
    ap (λ (l : List ℕ). space ∷ print_term t ++ l) (spaced_more ts u)
    ∙ ap (λ (l : List ℕ). space ∷ l) (sym (append_assoc (print_term t) (spaced ts) (space ∷ print_term u)))

-- the fields of a line, joined
joined_spaced : (f : List ℕ) (ts : List Term) → joined (f ∷ map print_term ts) ≡ f ++ spaced ts
unfolding joined spaced
joined_spaced f [] = sym (append-nil f)
joined_spaced f (t ∷ ts) = ap (λ (l : List ℕ). f ++ space ∷ l) (joined_spaced (print_term t) ts)

-- a table and its terms
pub line_bytes : (A : Line) → print_query_line A ≡ decimal A.table ++ spaced A.columns
unfolding print_query_line line_fields
line_bytes A = joined_spaced (decimal A.table) A.columns
