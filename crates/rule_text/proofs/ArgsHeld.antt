-- The value of an atom's terms, and of one term more behind them.
use mathlib.Core.Path.{◌≡◌, refl, sym, ap, ◌∙◌}
use mathlib.Core.List.{List, [], ◌∷◌, ◌++◌, map, map-append}
use Prim.Native.Nat.{ℕ, ◌+◌, ◌≤◌}
use native.Mathlib.Omega.{arith}
use lib.ListN.{length, set, length-append, length-map}
use lib.Seq.{set_out}
use Rattle.model.specs.Limits.{most_columns}
use Rattle.model.specs.Value.{term_value, terms_value}
use Rattle.model.specs.declared.Term.{Term}
use Rattle.model.proofs.Terms.{terms_length, terms_placed}
use Rattle.rules.specs.Rule.{Arg}
use Rattle.rule_text.specs.Keys.{keyed}
use Rattle.rule_text.specs.Atoms.{good_atom, BehindArgs}
use Rattle.rule_text.specs.declared.args.Atom.{Atom}

abbrev grown : Atom → ℕ → List Term → Atom
grown a n l = record { table = a.table; count = n; terms = l }

-- b holds a's terms with t in the place behind them, if there is one
pub record Placed (a : Atom) (t : Term) (b : Atom) : Type 0 where
  pub table : b.table ≡ a.table
  pub terms : length a.terms ≡ most_columns → b.terms ≡ set a.terms a.count t

pub placed_within : {a b : Atom} {t : Term} → b ≡ grown a a.count (set a.terms a.count t) → Placed a t b
placed_within e =
    record {
      table = ap (λ (x : Atom). x.table) e;
      terms = λ h. ap (λ (x : Atom). x.terms) e;
    }

pub placed_past : {a b : Atom} {t : Term} → most_columns ≤ a.count → b ≡ a → Placed a t b
placed_past {a} {b} {t} h e =
    record {
      table = ap (λ (x : Atom). x.table) e;
      terms = λ l. ap (λ (x : Atom). x.terms) e ∙ sym (set_out a.terms a.count t (omega arith));
    }

module _ (a b : Atom) (t : Term) (r : Placed a t b) where
  more : (ts : List Arg) (u : Arg) → a ≡ good_atom 0 ts → t ≡ term_value (keyed u)
      → grown b (a.count + 1) b.terms ≡ good_atom 0 (ts ++ u ∷ [])
  unfolding good_atom
  more ts u ea et =
      let long : length a.terms ≡ most_columns = ap (λ (x : Atom). length x.terms) ea ∙ terms_length (map keyed ts) in
      let terms : b.terms ≡ terms_value (map keyed (ts ++ u ∷ []))
      = r.terms long ∙ rw (et, ea, map-append, ← length-map ts keyed) (terms_placed (map keyed ts) (keyed u)) in
      let count : a.count + 1 ≡ length (ts ++ u ∷ []) = rw (ea, length-append) in
      λ i.
      record {
        table = (r.table ∙ ap (λ (x : Atom). x.table) ea) i;
        count = count i;
        terms = terms i;
      }

  pub behind_args : BehindArgs a t (grown b (a.count + 1) b.terms)
  behind_args = record { count = refl; terms = more }
