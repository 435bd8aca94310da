-- An atom: a table up to the first bracket, and terms from there on. What is said of each tells what is said of the atom.
use mathlib.Core.Path.{◌≡◌, refl, sym, ap, subst, ◌∙◌}
use mathlib.Core.Bool.{and-false}
use mathlib.Core.List.{List}
use mathlib.Core.Option.{Option, none, some}
use Prim.Native.Nat.{ℕ, ◌-◌}
use lib.ListN.{length, take, drop}
use Rattle.std.specs.Prelude.{Result, Ok, Err}
use Rattle.text.specs.Lines.{before}
use Rattle.text.specs.Names.{bytes}
use Rattle.text.specs.Numeral.{numeral}
use Rattle.text.specs.Value.{limited, numeral_value}
use Rattle.text.specs.declared.Numeral.{Numeral}
use Rattle.text.specs.declared.Numeral.TheVariants.{Malformed}
use Rattle.text.proofs.Parts.{to_end}
use Rattle.model.specs.Fields.{both}
use Rattle.model.specs.Limits.{most_tables}
use Rattle.model.specs.Parsed.{up_to_value}
use Rattle.model.proofs.UpTo.{tables_small, malformed_none, up_to_past, up_to_within}
use Rattle.rules.specs.Rule.{Arg}
use Rattle.rules.specs.Rule.{Atom as TheAtom}
use Rattle.rules.specs.Text.{opening, onto, behind, args_of, atom_of}
use Rattle.rules.specs.Checks.{atom_within}
use Rattle.rule_text.specs.Atoms.{good_atom, args_value, table_numeral, atom_value}
use Rattle.rule_text.specs.declared.args.Atom.{Atom}
use Rattle.rule_text.specs.declared.args.Unreadable.{Unreadable}
use Rattle.rule_text.specs.declared.args.Unreadable.TheVariants.{Malformed as Unread, Outside}
use Rattle.rule_text.proofs.AtomValues.{ArgsSaid, args_said}

-- ---- the table

pub table_other : (f : List ℕ) → behind (bytes "T") f ≡ none → Malformed ≡ table_numeral f
unfolding table_numeral onto limited
table_other f e = rw e

pub table_read : (f : List ℕ) {r : List ℕ} → behind (bytes "T") f ≡ some r → numeral_value r ≡ table_numeral f
unfolding table_numeral onto numeral_value
table_read f e = rw e

-- ---- the atom by its table and its terms

abbrev pub atom_by : Option ℕ → Option (List Arg) → Option TheAtom
atom_by o q = both (λ t ts. record { table = t; args = ts }) o q

abbrev tabled : Atom → ℕ → Atom
tabled a n = record { table = n; count = a.count; terms = a.terms }

-- no table
table_malformed : (o : Option ℕ) (q : Option (List Arg)) → limited o ≡ Malformed → Err Unread ≡ atom_value (atom_by o q)
unfolding both atom_value
table_malformed o q e = rw (malformed_none o e)

-- no terms
args_unread : (o : Option ℕ) (q : Option (List Arg)) (u : Unreadable) → (limited o ≡ Malformed → ⊥) → ArgsSaid (Err u) q
    → Err u ≡ atom_value (atom_by o q)
unfolding limited both atom_value atom_within
args_unread none q u f e = absurd (f refl)
args_unread (some n) q Unread f e = rw e
args_unread (some n) q Outside f (ts, e, past) = rw (e, past, and-false)

module _ (o : Option ℕ) (q : Option (List Arg)) (f : limited o ≡ Malformed → ⊥) {a : Atom} (read : ArgsSaid (Ok a) q) where
  -- a table past its limit
  table_past : up_to_value (limited o) most_tables ≡ 0 → Err Outside ≡ atom_value (atom_by o q)
  unfolding limited both atom_value atom_within
  table_past e = go o f e
    where
      go : (o : Option ℕ) → (limited o ≡ Malformed → ⊥) → up_to_value (limited o) most_tables ≡ 0 → Err Outside ≡ atom_value (atom_by o q)
      go none f e = absurd (f refl)
      go (some n) f e = rw (read.1, up_to_past most_tables tables_small n e)

  none_past : (up_to_value (limited o) most_tables ≡ 0 → ⊥) → Ok (tabled a (up_to_value (limited o) most_tables)) ≡ atom_value (atom_by o q)
  unfolding limited both good_atom atom_value atom_within
  none_past g = go o f g
    where
      go : (o : Option ℕ) → (limited o ≡ Malformed → ⊥) → (up_to_value (limited o) most_tables ≡ 0 → ⊥)
          → Ok (tabled a (up_to_value (limited o) most_tables)) ≡ atom_value (atom_by o q)
      go none f g = absurd (f refl)
      go (some n) f g =
          let w = up_to_within most_tables tables_small n g in
          rw (read.1, read.2, read.3, w.0, w.1)

-- ---- the atom by what was read of it

module _ (s : List ℕ) {n : ℕ} {number : Numeral} (first : n ≡ before opening s) (read : number ≡ table_numeral (take n s)) where
  table : Option ℕ
  table = onto numeral (behind (bytes "T") (take n s))

  numbered : number ≡ limited table
  unfolding table_numeral table
  numbered = read

  parted : atom_value (atom_of s) ≡ atom_value (atom_by table (args_of (drop n s)))
  unfolding atom_of table
  parted = rw first

  pub atom_untabled : number ≡ Malformed → Err Unread ≡ atom_value (atom_of s)
  atom_untabled e = table_malformed table (args_of (drop n s)) (sym numbered ∙ e) ∙ sym parted

  module _ (there : number ≡ Malformed → ⊥) {r : Result Atom Unreadable} (args : r ≡ args_value (args_of (take (length s - n) (drop n s)))) where
    a_table : limited table ≡ Malformed → ⊥
    a_table z = there (numbered ∙ z)

    said : ArgsSaid r (args_of (drop n s))
    said = args_said (args_of (drop n s)) (args ∙ ap (λ (l : List ℕ). args_value (args_of l)) (to_end n s))

    pub atom_unread : (u : Unreadable) → r ≡ Err u → Err u ≡ atom_value (atom_of s)
    atom_unread u e = args_unread table (args_of (drop n s)) u a_table (subst (λ (r : Result Atom Unreadable). ArgsSaid r (args_of (drop n s))) e said) ∙ sym parted

    module _ {a : Atom} (e : r ≡ Ok a) {m : ℕ} (em : m ≡ up_to_value number most_tables) where
      found : ArgsSaid (Ok a) (args_of (drop n s))
      found = subst (λ (r : Result Atom Unreadable). ArgsSaid r (args_of (drop n s))) e said

      table_is : m ≡ up_to_value (limited table) most_tables
      table_is = em ∙ ap (λ (y : Numeral). up_to_value y most_tables) numbered

      pub atom_past : m ≡ 0 → Err Outside ≡ atom_value (atom_of s)
      atom_past z = table_past table (args_of (drop n s)) a_table found (sym table_is ∙ z) ∙ sym parted

      pub atom_within_lem : (m ≡ 0 → ⊥) → Ok (tabled a m) ≡ atom_value (atom_of s)
      atom_within_lem z =
          rw table_is (none_past table (args_of (drop n s)) a_table found (λ y. z (table_is ∙ y))) ∙ sym parted
