-- Reading the fields of a line as terms.
use mathlib.Core.Path.{◌≡◌}
use mathlib.Core.Bool.{Bool, true, false}
use mathlib.Core.List.{List}
use Prim.Native.Nat.{ℕ, ◌+◌, ◌≤◌, ◌<◌}
use native.Mathlib.Omega.{arith}
use lib.ListN.{length}
use Rattle.std.specs.declared.slice.Split.{Split as Pieces}
use Rattle.text.specs.Lines.{space, fields}
use Rattle.text.proofs.Cuts.{most_left, Cut}
use Rattle.model.specs.Fields.{every, term}
use Rattle.model.specs.Limits.{last_variable, term_within}
use Rattle.model.specs.Marks.{Behind}
use Rattle.model.specs.Parsed.{blank_value, good_value, field_value, parsed_terms}
use Rattle.model.specs.declared.Term.{Term as TermValue}
use Rattle.model.specs.declared.Parsed.{Parsed}
use Rattle.model.specs.declared.Field.TheVariants.{Malformed, Outside, Within}
use Rattle.model.proofs.FieldsRead.{FieldsRead, read_none, next_none, next_past, next_held, all_read, some_past, none_past}
use Rattle.model.proofs.TermFields.{field_says, variable_small}

-- the fields before those that are left are terms, no more than there are bytes
pub record TermsRead {F : Type 0} (s : List ℕ) (p : Parsed) (past : Bool) (it : Pieces ℕ F) : Type 0 where
  pub terms : FieldsRead term term_within (good_value 0) s p past it
  pub few : p.count + most_left it ≤ length s + 1

module _ {F : Type 0} {s : List ℕ} where
  pub no_terms : {p : Parsed} {it : Pieces ℕ F} → p ≡ blank_value true false → it.done ≡ false → it.rest.now ≡ s → TermsRead s p false it
  unfolding good_value blank_value
  no_terms {p} {it} e d z =
      record { terms = read_none term term_within (good_value 0) s p it e d z; few = rw (e, d, z) (omega arith) }

  -- ---- the next field

  module _ {f : List ℕ} {p : Parsed} {past : Bool} {it then : Pieces ℕ F} (x : TermsRead s p past it) (here : Cut space it f then) where
    pub next_malformed : Malformed ≡ field_value (term f) → blank_value false false ≡ parsed_terms (every term (fields s))
    unfolding parsed_terms
    next_malformed e = rw (next_none term term_within (good_value 0) x.terms here (field_says (term f) e))

    pub next_outside : Outside ≡ field_value (term f) → TermsRead s p true then
    next_outside e =
        let w = field_says (term f) e in
        record {
          terms = next_past term term_within (good_value 0) x.terms here w.0 w.1 w.2;
          few = omega (arith, x.few, here.fewer);
        }

    pub next_within : {t : TermValue} {q : Parsed} → Within t ≡ field_value (term f) → Behind p t q → TermsRead s q past then
    next_within {t} {q} e b =
        let w = field_says (term f) e in
        record {
          terms = next_held term term_within (good_value 0) x.terms here w.0 q w.1 w.2 (λ ts h. b.terms ts w.0 h w.3);
          few = omega (arith, x.few, here.fewer, b.count);
        }

  -- ---- all fields

  module _ {p : Parsed} {past : Bool} {it : Pieces ℕ F} (r : TermsRead s p past it) (end : it.done ≡ true) where
    pub all_outside : past ≡ true → blank_value true true ≡ parsed_terms (every term (fields s))
    unfolding parsed_terms
    all_outside e = rw (all_read term term_within (good_value 0) r.terms end, some_past term term_within (good_value 0) r.terms e)

    pub all_within : past ≡ false → p ≡ parsed_terms (every term (fields s))
    unfolding parsed_terms
    all_within e =
        rw (all_read term term_within (good_value 0) r.terms end, none_past term term_within (good_value 0) r.terms e) (r.terms.held e)

-- a variable that a field says is no higher than the last
pub next_small : (f : List ℕ) {t : TermValue} → Within t ≡ field_value (term f) → 1 < t.mark → t.number ≤ last_variable
next_small f e k = let w = field_says (term f) e in rw w.3 (variable_small w.0 w.2 (rw w.3 at k))
