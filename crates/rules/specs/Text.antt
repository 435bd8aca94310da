-- Request 3, "A rule is one line, ended by byte 10": reading a rule. A text that is none of these is malformed (1).
--
-- No name and no numeral holds a bracket or a comma, so the brackets that close part a rule into its head and its atoms, and commas part
-- what stands in each. A byte 10 before the last byte stands in a piece, where no name or numeral has one.
use Rattle.std.specs.Prelude.{Bool, false, cond, ◌&&◌, List, [], ◌∷◌, ℕ, ◌+◌, leb, ltb, eqb, length, take, drop}
use Rattle.std.proofs.Math.Option.{Option, none, some}
use Rattle.text.specs.Lines.{before, parts, same_bytes}
use Rattle.text.specs.Names.{bytes}
use Rattle.text.specs.Numeral.{all_digits, numeral}
use Rattle.model.specs.Fields.{both, mapped}
use Rattle.rules.specs.Rule.{Name, Arg, variable, number, Atom, Rule}

-- ---- pieces

-- `,`, `(` and `)`
abbrev pub comma : ℕ
comma = 44

abbrev pub opening : ℕ
opening = 40

abbrev pub closing : ℕ
closing = 41

-- what the bytes are read as, where there are any
unfoldable pub onto : {X Y : Type 0} → (X → Option Y) → Option X → Option Y
onto f none = none
onto f (some x) = f x

-- what stands behind these bytes
unfoldable pub behind : List ℕ → List ℕ → Option (List ℕ)
behind [] l = some l
behind (b ∷ lead) [] = none
behind (b ∷ lead) (c ∷ l) = cond (eqb c b) (behind lead l) none

-- what stands before these bytes, which end the list
unfoldable pub unended : List ℕ → List ℕ → Option (List ℕ)
unfolding mapped same_bytes
unended end [] = none
unended end (b ∷ l) = cond (same_bytes (b ∷ l) end) (some []) (mapped (λ m. b ∷ m) (unended end l))

-- pieces of which the first stands behind `lead`, and each other behind `next`
unfoldable pub series : {X : Type 0} → (lead next : List ℕ) → (List ℕ → Option X) → List (List ℕ) → Option (List X)
unfolding both onto behind
series lead next read [] = some []
series lead next read (p ∷ ps) = both ◌∷◌ (onto read (behind lead p)) (series next next read ps)

-- ---- names

-- the first of the letters: upper-case ones and lower-case ones
abbrev pub upper : ℕ
upper = 65

abbrev pub lower : ℕ
lower = 97

-- "an upper-case letter and up to three digits", "a lower-case letter and up to three digits"
unfoldable pub is_name : ℕ → List ℕ → Bool
unfolding all_digits
is_name letters [] = false
is_name letters (b ∷ l) = (leb letters b && ltb b (letters + 26)) && (all_digits l && leb (length l) 3)

-- a field that is such a name
unfoldable pub name_of : ℕ → List ℕ → Option Name
unfolding is_name
name_of letters f = cond (is_name letters f) (some f) none

-- ---- atoms

-- "variables a lower-case letter and up to three digits, constants numerals"
unfoldable pub arg_of : List ℕ → Option Arg
unfolding is_name numeral mapped
arg_of f = cond (is_name lower f) (some (variable f)) (mapped number (numeral f))

-- `(x, y, z`; "A body atom without terms … meets 1", for then one piece is empty
unfoldable pub args_of : List ℕ → Option (List Arg)
unfolding series bytes arg_of parts
args_of l = series (bytes "(") (bytes " ") arg_of (parts comma l)

-- `T1(x, y, z`: "Tables are `T` and a numeral"
unfoldable pub atom_of : List ℕ → Option Atom
unfolding both onto behind bytes numeral args_of before
atom_of l =
    let n = before opening l in
    both (λ t ts. record { table = t; args = ts }) (onto numeral (behind (bytes "T") (take n l))) (args_of (drop n l))

-- ---- the rule

-- `(x, y`: "An empty head `Q1()` is allowed"; "a constant in the head, meets 1"
unfoldable pub head_names : List ℕ → Option (List Name)
unfolding series bytes name_of parts same_bytes
head_names l = cond (same_bytes l (bytes "(")) (some []) (series (bytes "(") (bytes " ") (name_of lower) (parts comma l))

-- " :- T1(x, y, z" and ", T2(x, 7": "one space after each comma and on each side of `:-`"
unfoldable pub body_of : List (List ℕ) → Option (List Atom)
unfolding series bytes atom_of
body_of [] = none
body_of (p ∷ ps) = series (bytes " :- ") (bytes ", ") atom_of (p ∷ ps)

-- the head, then the body: "The head name is an upper-case letter and up to three digits"
unfoldable pub rule_of_pieces : List (List ℕ) → Option Rule
unfolding both name_of head_names body_of before
rule_of_pieces [] = none
rule_of_pieces (h ∷ ps) =
    let n = before opening h in
    both (λ (rule : List Atom → Rule) atoms. rule atoms)
    (both (λ x xs atoms. record { name = x; head = xs; body = atoms }) (name_of upper (take n h)) (head_names (drop n h))) (body_of ps)

-- the last bracket and byte 10 end the rule
unfoldable pub rule_of : List ℕ → Option Rule
unfolding onto rule_of_pieces parts unended bytes
rule_of text = onto (λ m. rule_of_pieces (parts closing m)) (unended (bytes ")\n") text)
