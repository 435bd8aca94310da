-- A line that can be read is the printed line of what is read.
use mathlib.Core.Path.{◌≡◌, refl, sym, ap, ap₂, ◌∙◌}
use mathlib.Core.Bool.{Bool, true, false, cond}
use mathlib.Core.Option.{Option, none, some, some-injective, none-ne-some}
use mathlib.Core.List.{List, [], ◌∷◌, map, nil≢cons}
use Prim.Native.Nat.{ℕ, ◌≤◌, zero-le, suc-le-suc}
use lib.Dec.{eqb}
use lib.ListN.{length}
use borrow.Author.Tests.{eqb-true}
use Rattle.theory.specs.Query.{Term, constant, shown, hidden, Line}
use Rattle.text.specs.Lines.{fields}
use Rattle.text.specs.Numeral.{numeral}
use Rattle.text.specs.Print.{decimal, joined}
use Rattle.text.proofs.Decimals.{numeral_iff}
use Rattle.text.proofs.Joined.{joined_fields}
use Rattle.model.specs.Fields.{constant_byte, shown_byte, hidden_byte, both, every, mapped, term, line_of_fields, query_line, Numbered, numbered, one_numeral, table_line, view_line, partition_line}
use Rattle.model.specs.Print.{print_term, line_fields, print_query_line, table_fields, partition_fields, print_line}

-- ---- what was read of parts

pub both_some : {X Y Z : Type 0} (f : X → Y → Z) (o : Option X) (p : Option Y) (z : Z) → both f o p ≡ some z
    → (x : X) × (y : Y) × (o ≡ some x) × (p ≡ some y) × (f x y ≡ z)
unfolding both
both_some f none p z e = absurd (none-ne-some z e)
both_some f (some x) none z e = absurd (none-ne-some z e)
both_some f (some x) (some y) z e = (x, y, refl, refl, some-injective (f x y) z e)

pub mapped_some : {X Y : Type 0} (f : X → Y) (o : Option X) (y : Y) → mapped f o ≡ some y → (x : X) × (o ≡ some x) × (f x ≡ y)
unfolding mapped
mapped_some f none y e = absurd (none-ne-some y e)
mapped_some f (some x) y e = (x, refl, some-injective (f x) y e)

numeral_read : (f : List ℕ) (n : ℕ) → numeral f ≡ some n → f ≡ decimal n
numeral_read f n e = ((numeral_iff f n).0 e).1

-- ---- terms

term_read : (f : List ℕ) (t : Term) → term f ≡ some t → f ≡ print_term t
unfolding term print_term
term_read [] t e = absurd (none-ne-some t e)
term_read (b ∷ l) t e = by_constant (eqb b constant_byte) refl e
  where
    -- the mark b is that of the terms that f makes
    by_mark : (c : ℕ) (f : ℕ → Term) → ((n : ℕ) → print_term (f n) ≡ c ∷ decimal n) → eqb b c ≡ true → mapped f (numeral l) ≡ some t
        → b ∷ l ≡ print_term t
    by_mark c f is m e =
        let r = mapped_some f (numeral l) t e in
        ap₂ {C = List ℕ} ◌∷◌ (eqb-true b c m) (numeral_read l r.0 r.1) ∙ sym (is r.0) ∙ ap print_term r.2

    by_hidden : (q : Bool) → eqb b hidden_byte ≡ q → cond q (mapped hidden (numeral l)) none ≡ some t → b ∷ l ≡ print_term t
    by_hidden true m e = by_mark hidden_byte hidden (λ n. refl) m e
    by_hidden false m e = absurd (none-ne-some t e)

    by_shown : (q : Bool) → eqb b shown_byte ≡ q
        → cond q (mapped shown (numeral l)) (cond (eqb b hidden_byte) (mapped hidden (numeral l)) none) ≡ some t → b ∷ l ≡ print_term t
    by_shown true m e = by_mark shown_byte shown (λ n. refl) m e
    by_shown false m e = by_hidden (eqb b hidden_byte) refl e

    by_constant : (q : Bool) → eqb b constant_byte ≡ q
        → cond q (mapped constant (numeral l))
        (cond (eqb b shown_byte) (mapped shown (numeral l)) (cond (eqb b hidden_byte) (mapped hidden (numeral l)) none)) ≡ some t
        → b ∷ l ≡ print_term t
    by_constant true m e = by_mark constant_byte constant (λ n. refl) m e
    by_constant false m e = by_shown (eqb b shown_byte) refl e

every_read : {X : Type 0} (read : List ℕ → Option X) (write : X → List ℕ) → ((f : List ℕ) (x : X) → read f ≡ some x → f ≡ write x)
    → (fs : List (List ℕ)) (l : List X) → every read fs ≡ some l → fs ≡ map write l
unfolding every
every_read read write back [] l e = ap (map write) (some-injective [] l e)
every_read read write back (f ∷ fs) l e =
    let r = both_some ◌∷◌ (read f) (every read fs) l e in
    ap₂ {C = List (List ℕ)} ◌∷◌ (back f r.0 r.2) (every_read read write back fs r.1 r.3) ∙ ap (map write) r.4

-- ---- a table and its terms, of which there is one

line_of_read : (fs : List (List ℕ)) (A : Line) → line_of_fields fs ≡ some A → (fs ≡ line_fields A) × (1 ≤ length A.columns)
unfolding line_of_fields line_fields
line_of_read [] A e = absurd (none-ne-some A e)
line_of_read (f ∷ []) A e = absurd (none-ne-some A e)
line_of_read (f ∷ g ∷ gs) A e =
    let r = both_some (λ t ts. record { table = t; columns = ts }) (numeral f) (every term (g ∷ gs)) A e in
    let terms = every_read term print_term term_read (g ∷ gs) r.1 r.3 in
    rw (sym r.4) (ap₂ {C = List (List ℕ)} ◌∷◌ (numeral_read f r.0 r.2) terms, some_term r.1 terms)
  where
    some_term : (ts : List Term) → g ∷ gs ≡ map print_term ts → 1 ≤ length ts
    some_term [] q = absurd (nil≢cons (sym q))
    some_term (t ∷ ts) q = suc-le-suc zero-le

pub query_line_read : (l : List ℕ) (A : Line) → query_line l ≡ some A → (l ≡ print_query_line A) × (1 ≤ length A.columns)
unfolding query_line print_query_line
query_line_read l A e =
    let r = line_of_read (fields l) A e in (sym (joined_fields l) ∙ ap joined r.0, r.1)

-- ---- behind a number

module _ {X : Type 0} (read : List (List ℕ) → Option X) (write : X → List (List ℕ))
    (back : (fs : List (List ℕ)) (x : X) → read fs ≡ some x → fs ≡ write x) where
  numbered_read : (fs : List (List ℕ)) (e : Numbered X) → numbered read fs ≡ some e → joined fs ≡ print_line e.number (write e.value)
  unfolding numbered print_line
  numbered_read [] e h = absurd (none-ne-some e h)
  numbered_read (f ∷ fs) e h =
      let r = both_some (λ n x. record { number = n; value = x }) (numeral f) (read fs) e h in
      ap joined (ap₂ {C = List (List ℕ)} ◌∷◌ (numeral_read f r.0 r.2) (back fs r.1 r.3))
      ∙ ap (λ (x : Numbered X). print_line x.number (write x.value)) r.4

  numbered_line_lem : (l : List ℕ) (e : Numbered X) → numbered read (fields l) ≡ some e → l ≡ print_line e.number (write e.value)
  numbered_line_lem l e h = sym (joined_fields l) ∙ numbered_read (fields l) e h

one_read : (fs : List (List ℕ)) (n : ℕ) → one_numeral fs ≡ some n → fs ≡ table_fields n
unfolding one_numeral table_fields
one_read [] n e = absurd (none-ne-some n e)
one_read (f ∷ []) n e = ap (λ (g : List ℕ). g ∷ []) (numeral_read f n e)
one_read (f ∷ g ∷ gs) n e = absurd (none-ne-some n e)

pub table_read : (l : List ℕ) (e : Numbered ℕ) → table_line l ≡ some e → l ≡ print_line e.number (table_fields e.value)
unfolding table_line
table_read = numbered_line_lem one_numeral table_fields one_read

pub view_read : (l : List ℕ) (e : Numbered Line) → view_line l ≡ some e → l ≡ print_line e.number (line_fields e.value)
unfolding view_line
view_read = numbered_line_lem line_of_fields line_fields (λ fs A e. (line_of_read fs A e).0)

pub partition_read : (l : List ℕ) (e : Numbered (List ℕ)) → partition_line l ≡ some e
    → l ≡ print_line e.number (partition_fields e.value)
unfolding partition_line partition_fields
partition_read = numbered_line_lem (every numeral) partition_fields (every_read numeral decimal numeral_read)
