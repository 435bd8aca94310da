use mathlib.Core.Path.{◌≡◌}
use Prim.Native.Nat.{◌<◌}
use native.Mathlib.Omega.{arith}
use lib.ListN.{length}
use Rattle.model.specs.Limits.{most_columns}
use Rattle.model.proofs.Values.{mapped_long}
use Rattle.numbering.proofs.Named.{named_none, named_same, named_more, named_all}
use Rattle.numbering.proofs.names.Names.enter_line.Goals as goal
use Rattle.numbering.proofs.names.Names.enter_line.Goals.{In-loop-t, Start, else-t-eq-HIDDEN, then-t-eq-HIDDEN}

terms_long : (c : Start) → length c.args.line.terms ≡ most_columns
terms_long c = search mapped_long

inside : (c : In-loop-t) → c.loop-t.t-index < length c.args.line.terms
inside c = omega (arith, terms_long (goal.at.In-loop-t c).Start, c.loop-t-test.true)

pub loop-t-init : goal.loop-t-init
loop-t-init c = named_none _ _

pub loop-t-preserved : goal.loop-t-preserved
loop-t-preserved c =
    let here = inside (goal.at.loop-t-preserved c).In-loop-t in
    elim c.if-t-eq-HIDDEN.branch [
      | then-t-eq-HIDDEN w ↦ named_more c.loop-t.invariant _ here w.if-t-eq-HIDDEN.true w.enter.ensures w.self-is
      | else-t-eq-HIDDEN w ↦ named_same c.loop-t.invariant _ here w.if-t-eq-HIDDEN.false w.self-is
    ]

pub returns : goal.returns
returns c =
    named_all _ c.loop-t.invariant (omega (arith, terms_long (goal.at.returns c).Start, c.loop-t-test.false)) c.loop-t.auto.t-index-end
