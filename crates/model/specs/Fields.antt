-- Document 01, "The texts": the fields of a line, as the theory's terms and lines. A line whose fields are none of these is
-- malformed (1).
use Rattle.std.specs.Prelude.{cond, List, [], ◌∷◌, ℕ, eqb}
use Rattle.std.proofs.Math.Option.{Option, none, some}
use Rattle.theory.specs.Query.{Term, constant, shown, hidden, Line}
use Rattle.text.specs.Lines.{fields}
use Rattle.text.specs.Numeral.{numeral}

-- both, and what is made of them
unfoldable pub both : {X Y Z : Type 0} → (X → Y → Z) → Option X → Option Y → Option Z
both f none y = none
both f (some x) none = none
both f (some x) (some y) = some (f x y)

-- each element read, if all can be
unfoldable pub every : {X Y : Type 0} → (X → Option Y) → List X → Option (List Y)
unfolding both
every f [] = some []
every f (x ∷ l) = both ◌∷◌ (f x) (every f l)

unfoldable pub mapped : {X Y : Type 0} → (X → Y) → Option X → Option Y
mapped f none = none
mapped f (some x) = some (f x)

-- "`#` a constant, `!` a shown variable, `?` a hidden one"
abbrev pub constant_byte : ℕ
constant_byte = 35

abbrev pub shown_byte : ℕ
shown_byte = 33

abbrev pub hidden_byte : ℕ
hidden_byte = 63

-- "A term is a mark and a numeral"
unfoldable pub term : List ℕ → Option Term
unfolding mapped numeral
term [] = none
term (b ∷ l) =
    cond (eqb b constant_byte) (mapped constant (numeral l))
    (cond (eqb b shown_byte) (mapped shown (numeral l)) (cond (eqb b hidden_byte) (mapped hidden (numeral l)) none))

-- a table number and at least one term
unfoldable pub line_of_fields : List (List ℕ) → Option Line
unfolding both every term numeral
line_of_fields [] = none
line_of_fields (f ∷ []) = none
line_of_fields (f ∷ g ∷ gs) = both (λ t ts. record { table = t; columns = ts }) (numeral f) (every term (g ∷ gs))

-- a query's line, as `1 !1 #4 ?2`
unfoldable pub query_line : List ℕ → Option Line
unfolding line_of_fields fields
query_line l = line_of_fields (fields l)

-- a number and what it numbers
pub record Numbered (X : Type 0) : Type 0 where
  pub number : ℕ
  pub value : X

unfoldable pub numbered : {X : Type 0} → (List (List ℕ) → Option X) → List (List ℕ) → Option (Numbered X)
unfolding both numeral
numbered read [] = none
numbered read (f ∷ fs) = both (λ n x. record { number = n; value = x }) (numeral f) (read fs)

-- the one numeral of a field list
unfoldable pub one_numeral : List (List ℕ) → Option ℕ
unfolding numeral
one_numeral [] = none
one_numeral (f ∷ []) = numeral f
one_numeral (f ∷ g ∷ gs) = none

-- a table's line, as `1 3`
unfoldable pub table_line : List ℕ → Option (Numbered ℕ)
unfolding numbered one_numeral fields
table_line l = numbered one_numeral (fields l)

-- a view's line, as `2 1 !1 !2 ?3`
unfoldable pub view_line : List ℕ → Option (Numbered Line)
unfolding numbered line_of_fields fields
view_line l = numbered line_of_fields (fields l)

-- a partition's line, as `1 2 3`: "A partition may list no view."
unfoldable pub partition_line : List ℕ → Option (Numbered (List ℕ))
unfolding numbered every numeral fields
partition_line l = numbered (every numeral) (fields l)
