-- `read_atom`: the first bracket parts the table from the terms.
use Prim.Native.Nat.{◌≤◌}
use native.Mathlib.Omega.{arith}
use lib.ListN.{length}
use Rattle.std.proofs.lemmas.Result.{err_from_is_err_and}
use Rattle.text.proofs.Lines.{before_le}
use Rattle.text.proofs.Parts.{first_length}
use Rattle.rules.specs.Text.{opening}
use Rattle.rule_text.proofs.AtomRead.{atom_untabled, atom_unread, atom_past, atom_within_lem}
use Rattle.rule_text.proofs.atoms.read_atom.Goals as goal
use Rattle.rule_text.proofs.atoms.read_atom.Goals.{In_default}

pub slice_bounds-read_table-end : goal.slice_bounds-read_table-end
slice_bounds-read_table-end c = first_length opening _ _ c.first-n.ensures

pub returns-in-Malformed : goal.returns-in-Malformed
returns-in-Malformed c = atom_untabled _ c.first-n.ensures c.read_table-number.ensures c.in-Malformed.is

-- the terms start inside the piece
inside : (c : In_default) → c.first-n.result ≤ length c.args.piece.now
inside c = omega (arith, c.first-n.ensures, before_le opening c.args.piece.now)

pub slice_bounds-read_args-count : goal.slice_bounds-read_args-count
slice_bounds-read_args-count c = inside c

pub slice_bounds-read_args-start : goal.slice_bounds-read_args-start
slice_bounds-read_args-start c = omega (arith, inside c)

pub returns-in_err-a : goal.returns-in_err-a
returns-in_err-a c =
    let p = err_from_is_err_and c.from_residual.result c.from_residual.ensures.1 in
    rw (p.1, p.2) (atom_unread _ c.first-n.ensures c.read_table-number.ensures c.in_default.not-Malformed c.read_args.ensures _ c.in_err-a.was)

pub returns-then-a-eq0 : goal.returns-then-a-eq0
returns-then-a-eq0 c =
    atom_past _ c.first-n.ensures c.read_table-number.ensures c.in_default.not-Malformed c.read_args.ensures c.in_ok-a.was c.up_to.ensures
    c.if-a-eq0.true

pub returns : goal.returns
returns c =
    atom_within_lem _ c.first-n.ensures c.read_table-number.ensures c.in_default.not-Malformed c.read_args.ensures c.in_ok-a.was c.up_to.ensures
    c.if-a-eq0.false
