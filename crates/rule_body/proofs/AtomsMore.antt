-- The atoms read so far with one more behind them: its line goes into the place behind the last, if there is one.
use mathlib.Core.Path.{◌≡◌, refl, sym, ap, ◌∙◌}
use mathlib.Core.Bool.{true, false, true≢false}
use mathlib.Core.List.{List, [], ◌∷◌, ◌++◌, map}
use Prim.Native.Nat.{ℕ, ◌+◌, ◌≤◌, ◌<◌}
use native.Mathlib.Omega.{arith}
use lib.ListN.{length, set, length-append}
use Rattle.std.specs.Prelude.{Option, Some}
use Rattle.model.specs.Limits.{most_lines}
use Rattle.model.specs.Value.{pad, unused_line, line_value, query_value}
use Rattle.model.specs.declared.Tables.{Tables}
use Rattle.model.specs.declared.Query.{Query}
use Rattle.query_text.proofs.Walk.{one_more}
use Rattle.rules.specs.Rule.{Atom as TheAtom}
use Rattle.rules.specs.Numbering.{line_of}
use Rattle.rules.specs.Checks.{atom_within}
use Rattle.rule_text.specs.Keys.{keyed}
use Rattle.rule_text.specs.Atoms.{good_atom}
use Rattle.rule_text.specs.declared.args.Atom.{Atom}
use Rattle.rule_body.specs.Body.{keyed_lines, AtomIs, AtomChecked, fault_value, soonest, atoms_fault, AtomsHeld, LineBehind, AtomBehind}
use Rattle.rule_body.specs.declared.body.Atoms.{Atoms}
use Rattle.rule_body.proofs.Faults.{keyed_more, keyed_length, faults_more, fault_past, faultless_within, no_fault, soonest_none}

-- the line that an atom within the limits becomes, behind those of the others
line_more : (b : Atoms) (a : Atom) (r : Query) (atoms : List TheAtom) (x : TheAtom) → LineBehind b a r → b.count ≡ length atoms
    → a ≡ good_atom x.table x.args → b.query ≡ query_value (keyed_lines atoms) → length (atoms ++ x ∷ []) ≤ most_lines
    → r ≡ query_value (keyed_lines (atoms ++ x ∷ []))
unfolding query_value line_value good_atom line_of
line_more b a r atoms x behind counted good k few =
    let room : length atoms < most_lines = omega (arith, few, length-append atoms (x ∷ [])) in
    let n = keyed_length atoms in
    let counts : b.count + 1 ≡ length (keyed_lines (atoms ++ x ∷ []))
    = simp (keyed_length (atoms ++ x ∷ []), length-append) (omega (arith, counted)) in
    let lines : set b.query.lines b.count (record { table = a.table; terms = a.terms })
    ≡ pad most_lines unused_line (map line_value (keyed_lines (atoms ++ x ∷ [])))
    = rw (k, good, counted ∙ sym n, keyed_more atoms x) (one_more (keyed_lines atoms) (line_of keyed x) (omega (arith, n, room))) in
    behind.within (omega (arith, room, counted)) ∙ (λ i. record { count = counts i; lines = lines i })

-- what is known of one atom more, and of the number and the query that it leaves
module _ (b : Atoms) (Known : List ℕ → TheAtom → Type 0) (f : Option ℕ) (q : Query)
    (checked : (widths : List ℕ) (x : TheAtom) → Known widths x → f ≡ fault_value (atoms_fault widths (x ∷ [])))
    (kept : b.query.count ≤ most_lines → q.count ≤ most_lines)
    (placed : (widths : List ℕ) (atoms : List TheAtom) (x : TheAtom) → Known widths x → b.count ≡ length atoms
    → atom_within x ≡ true → b.query ≡ query_value (keyed_lines atoms) → length (atoms ++ x ∷ []) ≤ most_lines
    → q ≡ query_value (keyed_lines (atoms ++ x ∷ []))) where
  pub atom_behind : {g : Option ℕ} → g ≡ soonest b.fault f → AtomBehind b Known (record { count = b.count + 1; fault = g; query = q })
  atom_behind {g} sooner = record { counted = refl; few = kept; held = held }
    where
      held : (widths : List ℕ) (atoms : List TheAtom) (x : TheAtom) → Known widths x → AtomsHeld widths atoms b
          → AtomsHeld widths (atoms ++ x ∷ []) (record { count = b.count + 1; fault = g; query = q })
      held widths atoms x is h =
          record {
            count = simp length-append (omega (arith, h.count));
            fault = sooner ∙ rw (h.fault, checked widths x is) (sym (faults_more widths atoms x));
            query = λ z few.
                let w = soonest_none b.fault f (sym sooner ∙ z) in
                let within = faultless_within widths x (no_fault (atoms_fault widths (x ∷ [])) (sym (checked widths x is) ∙ w.1)) in
                placed widths atoms x is h.count within (h.query w.0 (omega (arith, few, length-append atoms (x ∷ [])))) few;
          }

-- an atom within the limits
pub within_behind : (tables : Tables) (b : Atoms) (a : Atom) (f : Option ℕ) (q : Query) → AtomChecked tables a f → LineBehind b a q
    → {g : Option ℕ} → g ≡ soonest b.fault f → AtomBehind b (AtomIs tables a) (record { count = b.count + 1; fault = g; query = q })
within_behind tables b a f q checked line =
    atom_behind b (AtomIs tables a) f q checked line.few
    (λ widths atoms x is counted w k few. line_more b a q atoms x line counted is.2 k few)

-- one that a number past its limit turns back
pub outside_behind : (b : Atoms) {g : Option ℕ} → g ≡ soonest b.fault (Some 2)
    → AtomBehind b (λ widths x. atom_within x ≡ false) (record { count = b.count + 1; fault = g; query = b.query })
unfolding fault_value
outside_behind b =
    atom_behind b (λ widths x. atom_within x ≡ false) (Some 2) b.query (λ widths x e. ap fault_value (fault_past widths x e)) (λ h. h)
    (λ widths atoms x e counted w k few. absurd (true≢false (sym w ∙ e)))
