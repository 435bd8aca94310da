-- Printed lines are read back: a term, a query's line, and a table's, a view's and a partition's behind their numbers.
use mathlib.Core.Path.{◌≡◌, refl}
use mathlib.Core.Option.{Option, some}
use mathlib.Core.List.Memᴰ
use mathlib.Core.List.{List, [], ◌∷◌, map}
use Prim.Native.Nat.{ℕ, suc, ◌+◌, ◌*◌, ◌^◌, ◌≤◌, ◌<◌, suc-le-suc}
use native.Mathlib.Nat.{not-suc-le-zero, le_trans, le_step}
use native.Mathlib.Omega.{arith}
use lib.Dec.{T, leb→le}
use lib.ListN.{length, length-map}
use Rattle.theory.specs.Query.{Term, constant, shown, hidden, Line, ◌∈◌}
use Rattle.text.specs.Lines.{fields}
use Rattle.text.specs.Numeral.{constant_limit, most_digits, numeral}
use Rattle.text.specs.Print.{decimal}
use Rattle.text.proofs.Each.{Each, each_nil, each_cons, each_map}
use Rattle.text.proofs.Decimals.{decimal_short, numeral_decimal}
use Rattle.text.proofs.Numerals.{limit_digits}
use Rattle.text.proofs.Joined.{FieldByte, Clean, decimal_clean, fields_joined, Within, length_joined}
use Rattle.model.specs.Fields.{constant_byte, shown_byte, hidden_byte, both, every, mapped, term, line_of_fields, query_line, numbered, one_numeral, table_line, view_line, partition_line}
use Rattle.model.specs.Limits.{most_columns, term_within, line_within}
use Rattle.model.specs.Print.{print_term, line_fields, print_query_line, table_fields, partition_fields, print_line}
use Rattle.model.proofs.Limits.{line_within_iff}

-- ---- clean fields

marked_clean : (b n : ℕ) → FieldByte b → Each FieldByte (b ∷ decimal n)
marked_clean b n h = each_cons FieldByte b (decimal n) h (decimal_clean n)

term_clean : (t : Term) → Each FieldByte (print_term t)
unfolding print_term
term_clean (constant c) = marked_clean constant_byte c (omega arith, omega arith)
term_clean (shown n) = marked_clean shown_byte n (omega arith, omega arith)
term_clean (hidden n) = marked_clean hidden_byte n (omega arith, omega arith)

pub line_clean : (A : Line) → Clean (line_fields A)
unfolding line_fields
line_clean A =
    each_cons (Each FieldByte) (decimal A.table) (map print_term A.columns) (decimal_clean A.table)
    (each_map (Each FieldByte) print_term A.columns (λ t m. term_clean t))

pub table_clean : (w : ℕ) → Clean (table_fields w)
unfolding table_fields
table_clean w = each_cons (Each FieldByte) (decimal w) [] (decimal_clean w) (each_nil (Each FieldByte))

pub partition_clean : (vs : List ℕ) → Clean (partition_fields vs)
unfolding partition_fields
partition_clean vs = each_map (Each FieldByte) decimal vs (λ v m. decimal_clean v)

-- ---- a line's numbers, and its terms

-- a line of which each number is printed as a numeral
pub record Writable (A : Line) : Type 0 where
  pub table : A.table < 10 ^ most_digits
  pub terms : (t : Term) → t ∈ A.columns → T (term_within t)

pub within_writable : (A : Line) → T (line_within A) → Writable A
within_writable A h = let k = (line_within_iff A).0 h in record { table = omega (arith, k.0.1); terms = k.1 }

-- ---- what the fields say

term_printed : (t : Term) → T (term_within t) → term (print_term t) ≡ some t
unfolding term print_term mapped term_within
term_printed (constant c) h = rw (numeral_decimal c (limit_digits c (leb→le c constant_limit h)))
term_printed (shown n) h = rw (numeral_decimal n (omega (arith, leb→le)))
term_printed (hidden n) h = rw (numeral_decimal n (omega (arith, leb→le)))

every_printed : {X : Type 0} (read : List ℕ → Option X) (write : X → List ℕ) (l : List X)
    → ((x : X) → x ∈ l → read (write x) ≡ some x) → every read (map write l) ≡ some l
unfolding every both
every_printed read write [] h = refl
every_printed read write (x ∷ l) h =
    rw (h x (Memᴰ.head refl), every_printed read write l (λ y m. h y (Memᴰ.tail m)))

-- a table, and at least one term
line_of_printed : (A : Line) → Writable A → 1 ≤ length A.columns → line_of_fields (line_fields A) ≡ some A
unfolding line_fields line_of_fields both
line_of_printed A w h = go A.columns h w.terms
  where
    go : (ts : List Term) → 1 ≤ length ts → ((t : Term) → t ∈ ts → T (term_within t))
        → line_of_fields (decimal A.table ∷ map print_term ts) ≡ some (record { table = A.table; columns = ts })
    go [] k within = absurd (not-suc-le-zero k)
    go (u ∷ us) k within =
        rw (
          numeral_decimal A.table w.table,
          every_printed term print_term (u ∷ us) (λ v m. term_printed v (within v m)),
        )

pub query_line_printed : (A : Line) → Writable A → 1 ≤ length A.columns → query_line (print_query_line A) ≡ some A
unfolding query_line print_query_line line_fields
query_line_printed A w h =
    rw (fields_joined (decimal A.table) (map print_term A.columns) (line_clean A)) (line_of_printed A w h)

-- ---- behind a number

-- a line's number in front of fields that can be read
line_printed : {X : Type 0} (read : List (List ℕ) → Option X) (n : ℕ) (fs : List (List ℕ)) (x : X)
    → n < 10 ^ most_digits → Clean fs → read fs ≡ some x
    → numbered read (fields (print_line n fs)) ≡ some (record { number = n; value = x })
unfolding print_line numbered both
line_printed read n fs x h clean e =
    rw (
      fields_joined (decimal n) fs (each_cons (Each FieldByte) (decimal n) fs (decimal_clean n) clean),
      numeral_decimal n h,
      e,
    )

pub table_printed : (n w : ℕ) → n < 10 ^ most_digits → w < 10 ^ most_digits
    → table_line (print_line n (table_fields w)) ≡ some (record { number = n; value = w })
unfolding table_line table_fields one_numeral
table_printed n w h k = line_printed one_numeral n (table_fields w) w h (table_clean w) (numeral_decimal w k)

pub view_printed : (n : ℕ) (A : Line) → n < 10 ^ most_digits → Writable A → 1 ≤ length A.columns
    → view_line (print_line n (line_fields A)) ≡ some (record { number = n; value = A })
unfolding view_line
view_printed n A h w k = line_printed line_of_fields n (line_fields A) A h (line_clean A) (line_of_printed A w k)

pub partition_printed : (n : ℕ) (vs : List ℕ) → n < 10 ^ most_digits → ((v : ℕ) → v ∈ vs → v < 10 ^ most_digits)
    → partition_line (print_line n (partition_fields vs)) ≡ some (record { number = n; value = vs })
unfolding partition_line partition_fields
partition_printed n vs h k =
    line_printed (every numeral) n (partition_fields vs) vs h (partition_clean vs)
    (every_printed numeral decimal vs (λ v m. numeral_decimal v (k v m)))

-- ---- how long a line is: each numeral is taken to have the most digits

-- a mark and a numeral
abbrev term_bytes : ℕ
term_bytes = 1 + most_digits

-- fields of which each is no longer than a term, and a space before each but the first
abbrev pub query_line_bytes : ℕ
query_line_bytes = term_bytes + most_columns * suc term_bytes

abbrev pub view_line_bytes : ℕ
view_line_bytes = term_bytes + suc most_columns * suc term_bytes

term_short : (t : Term) → T (term_within t) → Within term_bytes (print_term t)
unfolding print_term term_within
term_short (constant c) h = suc-le-suc (decimal_short c (limit_digits c (leb→le c constant_limit h)))
term_short (shown n) h = suc-le-suc (decimal_short n (omega (arith, leb→le)))
term_short (hidden n) h = suc-le-suc (decimal_short n (omega (arith, leb→le)))

fields_short : (A : Line) → Writable A → Each (Within term_bytes) (line_fields A)
unfolding line_fields
fields_short A w =
    each_cons (Within term_bytes) (decimal A.table) (map print_term A.columns) (le_step (decimal_short A.table w.table))
    (each_map (Within term_bytes) print_term A.columns
    (λ t m. term_short t (w.terms t m)))

pub query_line_short : (A : Line) → Writable A → length A.columns ≤ most_columns → Within query_line_bytes (print_query_line A)
unfolding print_query_line line_fields
query_line_short A w few =
    le_trans (length_joined term_bytes (decimal A.table) (map print_term A.columns) (fields_short A w)) (simp length-map (omega arith))

pub view_short : (n : ℕ) (A : Line) → n < 10 ^ most_digits → Writable A → length A.columns ≤ most_columns
    → Within view_line_bytes (print_line n (line_fields A))
unfolding print_line line_fields
view_short n A h w few =
    le_trans
    (length_joined term_bytes (decimal n) (line_fields A)
    (each_cons (Within term_bytes) (decimal n) (line_fields A) (le_step (decimal_short n h)) (fields_short A w)))
    (simp length-map (omega arith))
