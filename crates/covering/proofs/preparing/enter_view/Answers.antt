-- `enter_view`: the row is laid, the bit set in the word of the view's table, and the grants written.
use mathlib.Core.Path.{◌≡◌, ◌∙◌}
use Prim.Native.Nat.{◌+◌}
use native.Mathlib.Omega.{arith}
use lib.ListN.{length, length-set}
use Rattle.covering.specs.Prepared.{grant_words}
use Rattle.covering.proofs.Prepared.{entered_none, entered_table}
use Rattle.covering.proofs.preparing.enter_view.Goals as goal
use Rattle.covering.proofs.preparing.enter_view.Goals.{Joined-table, else-table, then-table}

-- what stands behind the test: the rows with the view laid, perhaps with its bit set
long : (c : Joined-table) → length c.if-table.ready ≡ length c.args.ready.now
long c =
    let l = c.lay_line.ensures in
    elim c.if-table.branch [ then-table w ↦ rw (w.ready-is, length-set) l.long | else-table w ↦ rw w.ready-is l.long ]

pub bounds-ready-k : goal.bounds-ready-k
bounds-ready-k c = let (e, k) = c.requires in omega (arith, long c, e, k)

pub shape_of-ready : goal.shape_of-ready
shape_of-ready c =
    let a = c.args in
    length-set c.if-table.ready (grant_words + a.k) a.grants ∙ long c

pub returns : goal.returns
returns c =
    let (e, k) = c.requires in
    let l = c.lay_line.ensures in
    elim c.if-table.branch [ then-table w ↦ rw w.ready-is (entered_table _ _ _ e k l _ w.if-table.true w.set_bit.ensures) | else-table w ↦ rw w.ready-is (entered_none _ _ _ e k l w.if-table.false) ]
