-- What reading the body of a rule gives.
use Rattle.std.specs.Prelude.{◌≡◌, true, Option, Some, None, List, [], ◌∷◌, ◌++◌, map, ℕ, zero, suc, ◌+◌, ◌<◌, ◌≤◌, min, length, set}
use Rattle.std.proofs.Math.Option.{some}
use Rattle.theory.specs.Query.{Query as TheQuery}
use Rattle.theory.specs.Executable.Test.{all}
use Rattle.text.specs.Lines.{parts}
use Rattle.model.specs.Limits.{most_lines, most_tables}
use Rattle.model.specs.Checks.{known, wide, first_fault}
use Rattle.model.specs.Value.{query_value, tables_value}
use Rattle.model.specs.declared.Tables.{Tables}
use Rattle.model.specs.declared.Query.{Query}
use Rattle.rules.specs.Rule.{Atom as TheAtom}
use Rattle.rules.specs.Text.{closing, body_of}
use Rattle.rules.specs.Numbering.{line_of}
use Rattle.rules.specs.Checks.{atom_within, atom_checks, body_checks}
use Rattle.rule_text.specs.Keys.{keyed}
use Rattle.rule_text.specs.Atoms.{good_atom}
use Rattle.rule_text.specs.declared.args.Atom.{Atom}
use Rattle.rule_body.specs.declared.body.Atoms.{Atoms}
use Rattle.rule_body.specs.declared.body.Body.{Body}

-- the atoms as lines whose variables have the keys of their names
unfoldable pub keyed_lines : List TheAtom → TheQuery
unfolding line_of keyed
keyed_lines atoms = map (line_of keyed) atoms

-- ---- one atom

-- an atom names a table that there may be
abbrev pub AtomTabled : Atom → Type 0
AtomTabled a = (1 ≤ a.table) × (a.table ≤ most_tables)

-- what turns atoms back behind 7: 2, 4, 5, or nothing
unfoldable pub atoms_fault : List ℕ → List TheAtom → ℕ
unfolding first_fault atom_within all known wide keyed_lines
atoms_fault widths atoms = first_fault (atom_checks widths atoms (keyed_lines atoms))

-- such a number as the code's value: 0 is none
unfoldable pub fault_value : ℕ → Option ℕ
fault_value zero = None
fault_value (suc n) = Some (suc n)

-- what `read_atom` gives for an atom within the limits
abbrev pub AtomIs : Tables → Atom → List ℕ → TheAtom → Type 0
AtomIs tables a widths x = (tables ≡ tables_value widths) × (atom_within x ≡ true) × (a ≡ good_atom x.table x.args)

abbrev pub AtomChecked : Tables → Atom → Option ℕ → Type 0
AtomChecked tables a r = (widths : List ℕ) (x : TheAtom) → AtomIs tables a widths x → r ≡ fault_value (atoms_fault widths (x ∷ []))

-- of two numbers of checks, which run in the order of their numbers, that of the first
unfoldable pub soonest : Option ℕ → Option ℕ → Option ℕ
soonest None g = g
soonest (Some m) None = Some m
soonest (Some m) (Some n) = Some (min m n)

-- ---- the atoms

-- the value holds these atoms; their lines where no check turns one back and there are no more than a query has lines
pub record AtomsHeld (widths : List ℕ) (atoms : List TheAtom) (b : Atoms) : Type 0 where
  pub count : b.count ≡ length atoms
  pub fault : b.fault ≡ fault_value (atoms_fault widths atoms)
  pub query : b.fault ≡ None → length atoms ≤ most_lines → b.query ≡ query_value (keyed_lines atoms)

-- no atom yet
unfoldable pub no_atoms : Atoms
unfolding query_value
no_atoms = record { count = 0; fault = None; query = query_value [] }

-- the atom's line stands behind those of the query, if there is a place for it
pub record LineBehind (b : Atoms) (a : Atom) (r : Query) : Type 0 where
  pub within : b.count < most_lines
      → r ≡ record { count = b.count + 1; lines = set b.query.lines b.count (record { table = a.table; terms = a.terms }) }
  pub few : b.query.count ≤ most_lines → r.count ≤ most_lines

-- the atoms with one more behind them, of which this is known under tables of these columns
pub record AtomBehind (b : Atoms) (Known : List ℕ → TheAtom → Type 0) (r : Atoms) : Type 0 where
  pub counted : r.count ≡ b.count + 1
  pub few : b.query.count ≤ most_lines → r.query.count ≤ most_lines
  pub held : (widths : List ℕ) (atoms : List TheAtom) (x : TheAtom) → Known widths x → AtomsHeld widths atoms b
      → AtomsHeld widths (atoms ++ x ∷ []) r

-- ---- the body

-- what turns the body back: 7, 2, 4, 5, or nothing
unfoldable pub body_fault : List ℕ → List TheAtom → ℕ
unfolding first_fault atom_within all known wide keyed_lines
body_fault widths atoms = first_fault (body_checks widths atoms (keyed_lines atoms))

-- well formed: what turns the atoms back, if anything does, and else their lines
pub record AtomsRead (widths : List ℕ) (atoms : List TheAtom) (r : Body) : Type 0 where
  pub fault : r.fault ≡ fault_value (body_fault widths atoms)
  pub query : r.fault ≡ None → r.query ≡ query_value (keyed_lines atoms)

pub record BodyRead (tables : Tables) (s : List ℕ) (r : Body) : Type 0 where
  pub atoms : List TheAtom
  pub parses : body_of (parts closing s) ≡ some atoms
  pub read : (widths : List ℕ) → tables ≡ tables_value widths → AtomsRead widths atoms r
