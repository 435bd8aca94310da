-- A query's line: its first field is the table's number, and the others are terms. What is said of each tells what is said of
-- the line.
use mathlib.Core.Path.{◌≡◌, refl, sym, ap, ap₂, ◌∙◌}
use mathlib.Core.Bool.{Bool, true, false, true≢false, false≢true, cond, ◌&&◌, and-false}
use mathlib.Core.List.{List, [], ◌∷◌, ◌++◌}
use mathlib.Core.Option.{Option, none, some}
use Prim.Native.Nat.{ℕ, suc, ◌+◌, ◌-◌, ◌<◌}
use native.Mathlib.Numerals.{add-one}
use native.Mathlib.Omega.{arith}
use lib.ListN.{length, take, drop}
use Rattle.theory.specs.Query.{Term, Line}
use Rattle.theory.specs.Executable.Test.{all}
use Rattle.text.specs.Lines.{space, split, fields, before}
use Rattle.text.specs.Numeral.{numeral}
use Rattle.text.specs.Value.{limited, numeral_value}
use Rattle.text.specs.declared.Numeral.{Numeral}
use Rattle.text.specs.declared.Numeral.TheVariants.{Malformed}
use Rattle.text.proofs.Lines.{before_le, parts_last, parts_more}
use Rattle.model.specs.Fields.{both, every, term, line_of_fields, query_line}
use Rattle.model.specs.Limits.{most_tables, up_to, term_within, line_within}
use Rattle.model.specs.Parsed.{blank_value, good_value, parsed_terms, parsed_line, up_to_value}
use Rattle.model.specs.declared.Parsed.{Parsed}
use Rattle.text.proofs.Parts.{to_end}
use Rattle.model.proofs.UpTo.{tables_small, malformed_none, up_to_past, up_to_within}

-- ---- the fields of a line

abbrev pub line_of : Option ℕ → Option (List Term) → Option Line
line_of o q = both (λ t ts. record { table = t; columns = ts }) o q

pub line_alone : (s : List ℕ) → before space s ≡ length s → blank_value false false ≡ parsed_line (query_line s)
unfolding query_line line_of_fields parsed_line
line_alone s e = rw (parts_last space s e)

line_others : (f : List ℕ) (gs : List (List ℕ)) (g : List ℕ)
    → line_of_fields (f ∷ (gs ++ g ∷ [])) ≡ line_of (numeral f) (every term (gs ++ g ∷ []))
unfolding line_of_fields
line_others f [] g = refl
line_others f (h ∷ gs) g = refl

-- n is the place of the first space
line_parted : (s : List ℕ) (n : ℕ) → n ≡ before space s → (n ≡ length s → ⊥)
    → query_line s ≡ line_of (numeral (take n s)) (every term (fields (take (length s - (n + 1)) (drop (n + 1) s))))
unfolding query_line fields
line_parted s n e f =
    let h : before space s < length s = omega (arith, before_le space s) in
    let r = split space (drop (suc (before space s)) s) in
    ap line_of_fields (parts_more space s h) ∙ line_others (take (before space s) s) r.ended r.rest
    ∙ rw (to_end (n + 1) s, add-one n, e)

-- ---- the line by its table and its terms

terms_ok : (ts : List Term) → (parsed_terms (some ts)).ok ≡ true
unfolding parsed_terms good_value blank_value
terms_ok ts = go (all term_within ts)
  where
    go : (t : Bool) → (cond t (good_value 0 ts) (blank_value true true)).ok ≡ true
    go true = refl
    go false = refl

-- no table
table_malformed : (o : Option ℕ) (q : Option (List Term)) → limited o ≡ Malformed → blank_value false false ≡ parsed_line (line_of o q)
unfolding both parsed_line
table_malformed o q e = rw (malformed_none o e)

-- a field that is no term
terms_malformed : (o : Option ℕ) (q : Option (List Term)) → (parsed_terms q).ok ≡ false → parsed_terms q ≡ parsed_line (line_of o q)
unfolding both parsed_terms parsed_line
terms_malformed none none e = refl
terms_malformed (some n) none e = refl
terms_malformed o (some ts) e = absurd (true≢false (sym (terms_ok ts) ∙ e))

-- a table past its limit
table_past : (o : Option ℕ) (q : Option (List Term)) → (parsed_terms q).ok ≡ true → (limited o ≡ Malformed → ⊥)
    → up_to_value (limited o) most_tables ≡ 0 → blank_value true true ≡ parsed_line (line_of o q)
unfolding limited both parsed_terms blank_value parsed_line line_within
table_past none q ok f e = absurd (f refl)
table_past (some n) none ok f e = absurd (false≢true ok)
table_past (some n) (some ts) ok f e = rw (up_to_past most_tables tables_small n e)

-- a term past its limit
terms_past : (o : Option ℕ) (q : Option (List Term)) → (parsed_terms q).ok ≡ true → (up_to_value (limited o) most_tables ≡ 0 → ⊥)
    → (parsed_terms q).outside ≡ true → parsed_terms q ≡ parsed_line (line_of o q)
unfolding limited up_to_value both parsed_terms blank_value good_value parsed_line line_within
terms_past none q ok f e = absurd (f refl)
terms_past (some n) none ok f e = absurd (false≢true ok)
terms_past (some n) (some ts) ok f e = go (all term_within ts) e
  where
    go : (t : Bool) → (cond t (good_value 0 ts) (blank_value true true)).outside ≡ true
        → cond t (good_value 0 ts) (blank_value true true) ≡ cond (up_to most_tables n && t) (good_value n ts) (blank_value true true)
    go true e = absurd (false≢true e)
    go false e = rw and-false

abbrev tabled : Parsed → ℕ → Parsed
tabled p n =
    record {
      ok = p.ok;
      outside = p.outside;
      table = n;
      count = p.count;
      terms = p.terms;
      shown = p.shown;
      hidden = p.hidden;
    }

none_past : (o : Option ℕ) (q : Option (List Term)) → (parsed_terms q).ok ≡ true → (up_to_value (limited o) most_tables ≡ 0 → ⊥)
    → (parsed_terms q).outside ≡ false → tabled (parsed_terms q) (up_to_value (limited o) most_tables) ≡ parsed_line (line_of o q)
unfolding limited up_to_value both parsed_terms blank_value good_value parsed_line line_within
none_past none q ok f e = absurd (f refl)
none_past (some n) none ok f e = absurd (false≢true ok)
none_past (some n) (some ts) ok f e = go (all term_within ts) e
  where
    go : (t : Bool) → (cond t (good_value 0 ts) (blank_value true true)).outside ≡ false
        → tabled (cond t (good_value 0 ts) (blank_value true true)) (up_to_value (limited (some n)) most_tables)
        ≡ cond (up_to most_tables n && t) (good_value n ts) (blank_value true true)
    go true e = let w = up_to_within most_tables tables_small n f in rw (w.0, w.1)
    go false e = absurd (true≢false e)

-- ---- the line by what was read of it

-- `number` and `p` are what the first field of s and the others say
pub record LineRead (s : List ℕ) (number : Numeral) (p : Parsed) : Type 0 where
  pub table : Option ℕ
  pub terms : Option (List Term)
  pub line : query_line s ≡ line_of table terms
  pub numbered : number ≡ limited table
  pub parsed : p ≡ parsed_terms terms

module _ (s : List ℕ) {n : ℕ} {number : Numeral} (first : n ≡ before space s) (more : n ≡ length s → ⊥)
    (read : number ≡ numeral_value (take n s)) where
  pub line_unnumbered : number ≡ Malformed → blank_value false false ≡ parsed_line (query_line s)
  unfolding numeral_value
  line_unnumbered e =
      table_malformed (numeral (take n s)) (every term (fields (take (length s - (n + 1)) (drop (n + 1) s)))) (sym read ∙ e)
      ∙ ap parsed_line (sym (line_parted s n first more))

  pub line_read : {p : Parsed} → p ≡ parsed_terms (every term (fields (take (length s - (n + 1)) (drop (n + 1) s)))) → LineRead s number p
  unfolding numeral_value
  line_read e =
      record {
        table = numeral (take n s);
        terms = every term (fields (take (length s - (n + 1)) (drop (n + 1) s)));
        line = line_parted s n first more;
        numbered = read;
        parsed = e;
      }

module _ {s : List ℕ} {number : Numeral} {p : Parsed} (x : LineRead s number p) where
  is_ok : {t : Bool} → p.ok ≡ t → (parsed_terms x.terms).ok ≡ t
  is_ok e = ap (λ (y : Parsed). y.ok) (sym x.parsed) ∙ e

  is_outside : {t : Bool} → p.outside ≡ t → (parsed_terms x.terms).outside ≡ t
  is_outside e = ap (λ (y : Parsed). y.outside) (sym x.parsed) ∙ e

  table_is : {n : ℕ} → n ≡ up_to_value number most_tables → n ≡ up_to_value (limited x.table) most_tables
  table_is e = e ∙ ap (λ (y : Numeral). up_to_value y most_tables) x.numbered

  said : {q : Parsed} → q ≡ parsed_line (line_of x.table x.terms) → q ≡ parsed_line (query_line s)
  said e = e ∙ ap parsed_line (sym x.line)

  pub line_malformed : p.ok ≡ false → p ≡ parsed_line (query_line s)
  line_malformed e = said (x.parsed ∙ terms_malformed x.table x.terms (is_ok e))

  pub line_table_past : {n : ℕ} → p.ok ≡ true → (number ≡ Malformed → ⊥) → n ≡ up_to_value number most_tables → n ≡ 0
      → blank_value true true ≡ parsed_line (query_line s)
  line_table_past ok f en e =
      said (table_past x.table x.terms (is_ok ok) (λ z. f (x.numbered ∙ z)) (sym (table_is en) ∙ e))

  pub line_terms_past : {n : ℕ} → p.ok ≡ true → n ≡ up_to_value number most_tables → (n ≡ 0 → ⊥) → p.outside ≡ true
      → p ≡ parsed_line (query_line s)
  line_terms_past ok en f e =
      said (x.parsed ∙ terms_past x.table x.terms (is_ok ok) (λ z. f (table_is en ∙ z)) (is_outside e))

  pub line_within_lem : {n : ℕ} → p.ok ≡ true → n ≡ up_to_value number most_tables → (n ≡ 0 → ⊥) → p.outside ≡ false
      → tabled p n ≡ parsed_line (query_line s)
  line_within_lem ok en f e =
      said (ap₂ tabled x.parsed (table_is en) ∙ none_past x.table x.terms (is_ok ok) (λ z. f (table_is en ∙ z)) (is_outside e))
