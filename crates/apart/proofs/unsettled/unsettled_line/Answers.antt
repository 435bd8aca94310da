use mathlib.Core.Path.{◌≡◌, sym, ap, ◌∙◌}
use mathlib.Core.Bool.{true, not, false≢true}
use Prim.Native.Nat.{◌<◌}
use native.Mathlib.Omega.{arith}
use lib.ListN.{length}
use borrow.Author.Count.{below_more}
use borrow.Author.Tests.{eqb-true, eqb-false}
use Rattle.words.specs.Bits.{is_set}
use Rattle.words.proofs.Answers.{passing, failing}
use Rattle.labelling.proofs.Lines.{line_tabled, line_labelled, answering, some_line, shown_line}
use Rattle.apart.specs.Unsettled.{AnswersLine}
use Rattle.apart.proofs.unsettled.unsettled_line.Goals as goal
use Rattle.apart.proofs.unsettled.unsettled_line.Goals.{else-has_bit, then-has_bit+else-not-has_bit}

pub label_line-l-requires-clause-tabled : goal.label_line-l-requires-clause-tabled
label_line-l-requires-clause-tabled c =
    let (d, t, Q, w, ready, e, rows) = c.requires.0 in
    let h : c.loop-k.k < length Q = rw e c.loop-k-test.true in
    line_tabled ready (some_line rows c.loop-k.k h)

pub returns-then-not-has_bit : goal.returns-then-not-has_bit
returns-then-not-has_bit c = λ d t Q w ns ready e rows word at.
    let args = c.args in
    let k = c.loop-k.k in
    let h : k < length Q = rw e c.loop-k-test.true in
    let set : is_set args.left k ≡ true = sym c.has_bit.ensures ∙ c.if-has_bit.true in
    let reached = (c.label_line-l.ensures d.views _ (line_labelled ready (shown_line rows k h args.left word set))).1 in
    record {
      there = h;
      stays = set;
      unanswered = λ a.
          eqb-false _ _ (failing c.has_bit-then-has_bit.ensures (ap not c.if-not-has_bit.true)) (((answering ready reached).bits args.i ns at).1 a);
    }

pub loop-k-preserved : goal.loop-k-preserved
loop-k-preserved c =
    let args = c.args in
    let k = c.loop-k.k in
    λ d t Q w ns ready e rows word at.
    let h : k < length Q = rw e c.loop-k-test.true in
    below_more (λ j. is_set args.left j ≡ true → AnswersLine d Q args.left j ns) k
    (c.loop-k.invariant d t Q w ns ready e rows word at)
    (λ set. elim c.if-has_bit.branch [
      | then-has_bit+else-not-has_bit x ↦ let reached = (x.label_line-l.ensures d.views _ (line_labelled ready (shown_line rows k h args.left word set))).1 in
          ((answering ready reached).bits args.i ns at).0 (eqb-true _ _ (passing x.has_bit-then-has_bit.ensures (ap not x.if-not-has_bit.false)))
      | else-has_bit x ↦ absurd (false≢true (sym x.if-has_bit.false ∙ c.has_bit.ensures ∙ set))
    ])

pub returns : goal.returns
returns c = λ d t Q w ns ready e rows word at j h.
    c.loop-k.invariant d t Q w ns ready e rows word at j (omega (arith, h, c.loop-k-test.false))
