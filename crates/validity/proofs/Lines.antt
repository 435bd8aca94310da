-- The terms that a line has for a width: a view has those of its columns, and the unused line has them for no columns.
use mathlib.Core.Path.{◌≡◌, sym, ap, ◌∙◌, subst}
use mathlib.Core.Logic.{◌↔◌, by_cases}
use mathlib.Core.List.{List}
use Prim.Native.Nat.{ℕ, ◌≤◌, ◌<◌, zero-le}
use native.Mathlib.Nat.{suc_inj, suc-ne-zero}
use native.Mathlib.Decide.{dec_lt}
use native.Mathlib.Omega.{arith}
use lib.Dec.{eqb}
use lib.ListN.{length, get_or, replicate}
use mir.Facts.{yes_eqb}
use Rattle.theory.specs.Query.{shown, hidden, ◌∈◌}
use Rattle.theory.specs.Query.{Term as TheTerm}
use Rattle.theory.specs.Executable.Test.{same, kind}
use Rattle.theory.proofs.Executable.Test.{and_iff, same_iff}
use Rattle.model.specs.Limits.{most_columns}
use Rattle.model.specs.Value.{term_value, unused_term, unused_line}
use Rattle.model.specs.declared.Term.{Term}
use Rattle.model.specs.declared.Line.{Line}
use Rattle.validity.specs.Parts.{HoldsList, GoodTerm, TermOf, TermsHeld}
use Rattle.validity.specs.Entries.{TermsFor}
use Rattle.validity.proofs.Lists.{only_default, all_same}
use Rattle.validity.proofs.Held.{checked_held, held_checked, held_place, held_thing, place_unused, unused_place}

-- ---- the unused line

pub unused_table : {l : Line} → l ≡ unused_line → l.table ≡ 0
unfolding unused_line
unused_table e = ap (λ (l : Line). l.table) e

unused_terms : {l : Line} → l ≡ unused_line → (k : ℕ) → get_or l.terms k unused_term ≡ unused_term
unfolding unused_line
unused_terms e k = ap (λ (l : Line). get_or l.terms k unused_term) e ∙ only_default unused_term most_columns k

unused_line_lem : {l : Line} → length l.terms ≡ most_columns → l.table ≡ 0
    → ((k : ℕ) → k < most_columns → get_or l.terms k unused_term ≡ unused_term) → l ≡ unused_line
unfolding unused_line
unused_line_lem {l} long t each =
    let terms : l.terms ≡ replicate most_columns unused_term = rw long at (all_same unused_term l.terms (λ k h. each k (rw long at h))) in
    λ i. record { table = t i; terms = terms i }

-- for no columns
pub terms_unused : {l : Line} → length l.terms ≡ most_columns → l.table ≡ 0 → TermsFor 0 l.terms ↔ (l ≡ unused_line)
unfolding term_value unused_term
terms_unused long none = (
  λ d. unused_line_lem long none (λ k h. place_unused TermOf unused_term k 0 zero-le (d.places k h)),
  λ e. record {
    places = λ k h. unused_place TermOf unused_term k 0 zero-le (unused_terms e k);
    clear = λ n j k a b s h. suc-ne-zero _ (ap (λ (x : Term). x.mark) (sym s ∙ unused_terms e j));
  },
)

-- ---- the terms of a view

same_value : (t u : TheTerm) → term_value t ≡ term_value u → t ≡ u
unfolding term_value same
same_value t u e =
    (same_iff t u).0
    ((and_iff (eqb (kind t) (kind u)) _).1
    (yes_eqb (suc_inj (ap (λ (x : Term). x.mark) e)), yes_eqb (ap (λ (x : Term). x.number) e)))

module _ (w : ℕ) (ts : List Term) (h : HoldsList most_columns GoodTerm term_value unused_term w ts) where
  -- a term that stands among them is held
  found_held : (u : TheTerm) (k : ℕ) → k < most_columns → get_or ts k unused_term ≡ term_value u → u ∈ h.things
  unfolding term_value unused_term
  found_held u k b e =
      by_cases (dec_lt k w)
      (λ l.
      let r = held_thing GoodTerm term_value unused_term most_columns w ts h k l in
      subst (λ (v : TheTerm). v ∈ h.things) (same_value r.0 u (sym r.2 ∙ e)) r.1)
      (λ l.
      let p = (held_checked GoodTerm term_value unused_term most_columns w ts h).places k b in
      let none = place_unused TermOf unused_term k w (omega arith) p in
      absurd (suc-ne-zero _ (ap (λ (x : Term). x.mark) (sym e ∙ none))))

pub terms_held : (w : ℕ) (ts : List Term) → length ts ≡ most_columns → 1 ≤ w → w ≤ most_columns → TermsFor w ts ↔ TermsHeld w ts
terms_held w ts long some few = (
  λ d.
      let h =
      checked_held GoodTerm term_value unused_term most_columns w ts long (record { counted = (some, few); places = d.places })
      in
      record {
        held = h;
        clear = λ n a b.
            let p = held_place GoodTerm term_value unused_term most_columns w ts h (shown n) a in
            let q = held_place GoodTerm term_value unused_term most_columns w ts h (hidden n) b in
            d.clear n p.0 q.0 (omega (arith, p.1)) (omega (arith, q.1)) p.2 q.2;
      },
  λ h. record {
    places = (held_checked GoodTerm term_value unused_term most_columns w ts h.held).places;
    clear = λ n j k a b s t.
        h.clear n (found_held w ts h.held (shown n) j a s) (found_held w ts h.held (hidden n) k b t);
  },
)
