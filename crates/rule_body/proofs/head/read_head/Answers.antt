-- `read_head`: the first bracket parts the name of the rule from the names that it shows.
use mathlib.Core.Path.{sym, ◌∙◌}
use Prim.Native.Nat.{◌≤◌}
use native.Mathlib.Omega.{arith}
use lib.ListN.{length}
use Rattle.text.proofs.Lines.{before_le}
use Rattle.text.proofs.Parts.{first_length}
use Rattle.rules.specs.Text.{opening}
use Rattle.rule_body.proofs.NamesRead.{head_unnamed, head_named}
use Rattle.rule_body.proofs.head.read_head.Goals as goal
use Rattle.rule_body.proofs.head.read_head.Goals.{After-first-n}

pub slice_bounds-read_name-end : goal.slice_bounds-read_name-end
slice_bounds-read_name-end c = first_length opening _ _ c.first-n.ensures

pub returns-in_err-read_name : goal.returns-in_err-read_name
returns-in_err-read_name c =
    rw c.from_residual.ensures (head_unnamed _ c.first-n.ensures (sym c.read_name.ensures ∙ c.in_err-read_name.was))

-- the names start inside the piece
inside : (c : After-first-n) → c.first-n.result ≤ length c.args.piece.now
inside c = omega (arith, c.first-n.ensures, before_le opening c.args.piece.now)

pub slice_bounds-read_names-count : goal.slice_bounds-read_names-count
slice_bounds-read_names-count c = inside (goal.at.slice_bounds-read_names-count c).After-first-n

pub slice_bounds-read_names-start : goal.slice_bounds-read_names-start
slice_bounds-read_names-start c = omega (arith, inside (goal.at.slice_bounds-read_names-start c).After-first-n)

pub returns : goal.returns
returns c = head_named _ c.first-n.ensures _ (sym c.read_name.ensures ∙ c.in_ok-read_name.was) _ _ c.read_names.ensures
