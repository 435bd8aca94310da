-- The walk over the atoms of a body: what has been read, and how an atom or the end goes on from there.
use mathlib.Core.Path.{◌≡◌, refl, sym, ◌∙◌, subst}
use mathlib.Core.Logic.{◌⊎◌, ⊎_elim}
use mathlib.Core.Bool.{true, false, cond}
use mathlib.Core.List.{List, [], ◌∷◌, ◌++◌}
use mathlib.Core.Option.{none, some}
use Prim.Native.Nat.{ℕ, ◌+◌, ◌≤◌, ◌<◌}
use native.Mathlib.Omega.{arith}
use lib.Dec.{T, ltb, lit≤}
use lib.ListN.{length}
use borrow.Author.Tests.{lt-ltb, le-ltb}
use Rattle.std.specs.Prelude.{Option, Some, Ok, Err}
use Rattle.std.specs.declared.slice.Split.{Split as Pieces}
use Rattle.std.proofs.lemmas.Option.{none-some}
use Rattle.theory.specs.Executable.Test.{all}
use Rattle.text.specs.Lines.{parts, split}
use Rattle.text.specs.Names.{bytes}
use Rattle.model.specs.Limits.{most_lines}
use Rattle.model.specs.Checks.{first_fault}
use Rattle.model.specs.Value.{query_value, tables_value}
use Rattle.model.specs.declared.Tables.{Tables}
use Rattle.rules.specs.Rule.{Atom as TheAtom}
use Rattle.rules.specs.Text.{closing, onto, behind, series, atom_of, body_of}
use Rattle.rules.specs.Checks.{atom_within}
use Rattle.rules.proofs.Checked.{atom_within_iff}
use Rattle.rule_text.specs.Atoms.{good_atom, atom_value}
use Rattle.rule_text.specs.declared.args.Atom.{Atom}
use Rattle.rule_text.specs.declared.args.Unreadable.TheVariants.{Malformed, Outside}
use Rattle.rule_text.proofs.AtomValues.{atom_said}
use Rattle.text.proofs.Cuts.{most_left, Cut}
use Rattle.rule_text.proofs.Series.{SeriesRead, series_none, series_broken, series_more, series_all}
use Rattle.rule_body.specs.Body.{keyed_lines, AtomTabled, AtomIs, atoms_fault, fault_value, body_fault}
use Rattle.rule_body.specs.Body.{AtomsHeld, no_atoms, AtomBehind, AtomsRead, BodyRead}
use Rattle.rule_body.specs.declared.body.Atoms.{Atoms}

abbrev pub arrow : List ℕ
arrow = 32 ∷ 58 ∷ 45 ∷ 32 ∷ []

abbrev pub gap : List ℕ
gap = 44 ∷ 32 ∷ []

-- a body has one piece at least
body_series : (s : List ℕ) → body_of (parts closing s) ≡ series arrow gap atom_of (parts closing s)
unfolding parts body_of bytes
body_series s = go (split closing s).ended (split closing s).rest
  where
    go : (ps : List (List ℕ)) (p : List ℕ) → body_of (ps ++ p ∷ []) ≡ series arrow gap atom_of (ps ++ p ∷ [])
    go [] p = refl
    go (q ∷ ps) p = refl

-- ---- the atoms passed

-- the pieces before those that are left were read as atoms, no more than there are bytes, and b holds them
pub record Walked {F : Type 0} (tables : Tables) (s : List ℕ) (b : Atoms) (now : List ℕ) (it : Pieces ℕ F) : Type 0 where
  pub atoms : List TheAtom
  pub passed : SeriesRead closing arrow gap atom_of s now atoms it
  pub held : (widths : List ℕ) → tables ≡ tables_value widths → AtomsHeld widths atoms b
  pub few : b.count + most_left it ≤ length s + 1
  pub kept : b.query.count ≤ most_lines

none_held : (widths : List ℕ) → AtomsHeld widths [] no_atoms
unfolding no_atoms atoms_fault fault_value first_fault all keyed_lines
none_held widths = record { count = refl; fault = refl; query = λ z l. refl }

module _ {F : Type 0} (tables : Tables) {s : List ℕ} where
  pub walked_none : {b : Atoms} {it : Pieces ℕ F} → b ≡ no_atoms → it.done ≡ false → it.rest.now ≡ s → Walked tables s b arrow it
  unfolding no_atoms query_value
  walked_none {b} {it} e d z =
      record {
        atoms = [];
        passed = series_none closing arrow gap atom_of s it d z;
        held = λ widths t. subst (AtomsHeld widths []) (sym e) (none_held widths);
        few = rw (e, d, z) (omega arith);
        kept = rw e (lit≤ tt);
      }

  -- ---- the next piece

  module _ {b : Atoms} {now f : List ℕ} {it then : Pieces ℕ F} (x : Walked tables s b now it) (here : Cut closing it f then) where
    broken : onto atom_of (behind now f) ≡ none → body_of (parts closing s) ≡ none
    broken e = body_series s ∙ series_broken closing arrow gap atom_of s x.passed here e

    pub next_unled : behind now f ≡ none → body_of (parts closing s) ≡ none
    unfolding onto
    next_unled e = broken (rw e)

    module _ {g : List ℕ} (led : behind now f ≡ some g) where
      said : onto atom_of (behind now f) ≡ atom_of g
      unfolding onto
      said = rw led

      pub next_malformed : Err Malformed ≡ atom_value (atom_of g) → body_of (parts closing s) ≡ none
      next_malformed e = broken (said ∙ atom_said (atom_of g) e)

      more : {Known : List ℕ → TheAtom → Type 0} {c : Atoms} (y : TheAtom) → atom_of g ≡ some y
          → ((widths : List ℕ) → tables ≡ tables_value widths → Known widths y) → AtomBehind b Known c → Walked tables s c gap then
      more {Known} {c} y e known m =
          record {
            atoms = x.atoms ++ y ∷ [];
            passed = series_more closing arrow gap atom_of s x.passed here y (said ∙ e);
            held = λ widths t. m.held widths x.atoms y (known widths t) (x.held widths t);
            few = omega (arith, x.few, here.fewer, m.counted);
            kept = m.few x.kept;
          }

      pub next_outside : {c : Atoms} → Err Outside ≡ atom_value (atom_of g) → AtomBehind b (λ widths y. atom_within y ≡ false) c
          → Walked tables s c gap then
      next_outside e m = let w = atom_said (atom_of g) e in more w.0 w.1 (λ widths t. w.2) m

      module _ {a : Atom} (e : Ok a ≡ atom_value (atom_of g)) where
        pub next_tabled : AtomTabled a
        unfolding good_atom
        next_tabled =
            let w = atom_said (atom_of g) e in
            rw w.3 ((atom_within_iff w.0).0 (subst T (sym w.2) tt)).0

        pub next_within : {c : Atoms} → AtomBehind b (AtomIs tables a) c → Walked tables s c gap then
        next_within m = let w = atom_said (atom_of g) e in more w.0 w.1 (λ widths t. (t, w.2, w.3)) m

-- ---- all pieces

-- f is 7 where there are more atoms than a query has lines, and else what turns one back first
abbrev pub Last : Atoms → Option ℕ → Type 0
Last b f = ((most_lines < b.count) × (f ≡ Some 7)) ⊎ ((b.count ≤ most_lines) × (f ≡ b.fault))

body_fault_lem : (widths : List ℕ) (atoms : List TheAtom)
    → body_fault widths atoms ≡ cond (ltb most_lines (length atoms)) 7 (atoms_fault widths atoms)
unfolding body_fault atoms_fault first_fault
body_fault_lem widths atoms = refl

held_read : (widths : List ℕ) (atoms : List TheAtom) (b : Atoms) (f : Option ℕ) → AtomsHeld widths atoms b → Last b f
    → AtomsRead widths atoms (record { fault = f; query = b.query })
unfolding fault_value
held_read widths atoms b f h last =
    record {
      fault =
          ⊎_elim (λ w. w.1 ∙ rw (body_fault_lem widths atoms, lt-ltb most_lines (length atoms) (omega (arith, w.0, h.count))) refl)
          (λ w. w.1 ∙ h.fault ∙ rw (body_fault_lem widths atoms, le-ltb most_lines (length atoms) (omega (arith, w.0, h.count))) refl) last;
      query = λ z.
          ⊎_elim (λ w. absurd (none-some 7 (sym z ∙ w.1))) (λ w. h.query (sym w.1 ∙ z) (omega (arith, w.0, h.count))) last;
    }

pub body_read : {F : Type 0} {tables : Tables} {s : List ℕ} {b : Atoms} {now : List ℕ} {it : Pieces ℕ F} {f : Option ℕ}
    → Walked tables s b now it → it.done ≡ true → Last b f
    → BodyRead tables s (record { fault = f; query = b.query }) × (b.query.count ≤ most_lines)
body_read {s = s} {b} {f = f} w end last = (
  record {
    atoms = w.atoms;
    parses = body_series s ∙ series_all closing arrow gap atom_of s w.passed end;
    read = λ widths t. held_read widths w.atoms b f (w.held widths t) last;
  },
  w.kept,
)
