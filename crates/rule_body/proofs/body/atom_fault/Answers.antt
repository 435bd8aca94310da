-- `atom_fault`: within the limits, what the table's columns say.
use mathlib.Core.Path.{◌≡◌, sym, ap, ◌∙◌}
use mathlib.Core.List.{List, [], ◌∷◌}
use Prim.Native.Nat.{ℕ}
use lib.ListN.{length-map}
use Rattle.rules.specs.Rule.{Atom as TheAtom}
use Rattle.rules.specs.Numbering.{line_of}
use Rattle.rule_text.specs.Keys.{keyed}
use Rattle.rule_text.specs.Atoms.{good_atom}
use Rattle.rule_text.specs.declared.args.Atom.{Atom}
use Rattle.rule_body.specs.Body.{AtomIs, atoms_fault, fault_value}
use Rattle.rule_body.proofs.Faults.{fault_within, some_fault}
use Rattle.rule_body.proofs.body.atom_fault.Goals as goal
use Rattle.rule_body.proofs.body.atom_fault.Goals.{After-check_columns-f}

columns : (c : After-check_columns-f) → (widths : List ℕ) (x : TheAtom) → AtomIs c.args.tables c.args.a widths x
    → c.check_columns-f.result ≡ atoms_fault widths (x ∷ [])
unfolding good_atom line_of
columns c widths x (t, w, g) =
    c.check_columns-f.ensures widths (line_of keyed x) t (ap (λ (y : Atom). y.table) g)
    (ap (λ (y : Atom). y.count) g ∙ rw (length-map x.args keyed))
    ∙ fault_within widths x w

pub returns-then-f-eq0 : goal.returns-then-f-eq0
unfolding fault_value
returns-then-f-eq0 c widths x is =
    rw (sym (columns (goal.at.returns-then-f-eq0 c).After-check_columns-f widths x is) ∙ c.if-f-eq0.true)

pub returns-else-f-eq0 : goal.returns-else-f-eq0
returns-else-f-eq0 c widths x is =
    some_fault _ c.if-f-eq0.false ∙ ap fault_value (columns (goal.at.returns-else-f-eq0 c).After-check_columns-f widths x is)
