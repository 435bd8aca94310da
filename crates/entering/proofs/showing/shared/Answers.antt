use mathlib.Core.Path.{◌≡◌}
use Prim.Native.Nat.{◌<◌}
use native.Mathlib.Omega.{arith}
use lib.ListN.{length, take}
use lib.Seq.{take_all}
use Rattle.words.specs.Bits.{is_set}
use Rattle.entering.specs.Agree.{line_at}
use Rattle.entering.specs.Left.{pick, lines_at}
use Rattle.entering.proofs.Lines.{left_more}
use Rattle.entering.proofs.Seen.{seen_none, seen_more}
use Rattle.entering.proofs.showing.shared.Goals as goal

pub loop-i-init : goal.loop-i-init
unfolding pick
loop-i-init c Q e worded = seen_none

pub loop-i-preserved : goal.loop-i-preserved
loop-i-preserved c Q e worded =
    let there = c.has_bit-there in
    let at = c.loop-i in
    let left = c.args.left in
    let l : at.i < length Q = omega (arith, e, c.loop-i-test.true) in
    let hidden = c.hidden_of in
    rw (left_more left Q at.i l, c.value_if-w.ensures, there.ensures, hidden.ensures)
    (seen_more (at.invariant Q e worded) (is_set left at.i) (line_at Q at.i) _ (worded.line at.i l).variables)

pub returns : goal.returns
unfolding lines_at
returns c = λ Q e worded.
    let i = c.loop-i.i in
    let all : take i Q ≡ Q = take_all i Q (omega (arith, e)) in
    rw all at (c.loop-i.invariant Q e worded).twos
