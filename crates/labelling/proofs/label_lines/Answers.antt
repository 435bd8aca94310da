use mathlib.Core.Path.{◌≡◌, sym, ◌∙◌}
use mathlib.Core.Bool.{true}
use Prim.Native.Nat.{◌<◌}
use native.Mathlib.Omega.{arith}
use lib.ListN.{length}
use Rattle.words.specs.Bits.{is_set}
use Rattle.model.specs.Limits.{most_lines}
use Rattle.model.specs.Value.{pad}
use Rattle.entering.specs.Left.{pick}
use Rattle.labelling.proofs.Lines.{line_tabled, line_labelled, answering, some_line, shown_line}
use Rattle.labelling.proofs.Written.{written_none, written_more, written_same, written_all}
use Rattle.labelling.proofs.label_lines.Goals as goal
use Rattle.labelling.proofs.label_lines.Goals.{In-loop-i, else-has_bit, then-has_bit}

pub loop-i-init : goal.loop-i-init
unfolding pick pad
loop-i-init c =
    (omega arith, λ d t Q w ready e rows word. written_none _ _ ready c.every_partition-settling.ensures)

-- the query that was given has at most eight lines
room : (c : In-loop-i) → c.loop-i.i < most_lines
room c =
    let (d, t, Q, w, ready, e, rows) = c.requires.0 in omega (arith, c.loop-i-test.true, e, rows.lines)

pub label_line-l-requires-clause-tabled : goal.label_line-l-requires-clause-tabled
label_line-l-requires-clause-tabled c =
    let (d, t, Q, w, ready, e, rows) = c.requires.0 in
    let h : c.loop-i.i < length Q = rw e c.loop-i-test.true in
    line_tabled ready (some_line rows c.loop-i.i h)

pub loop-i-preserved : goal.loop-i-preserved
loop-i-preserved c =
    let at = c.loop-i in
    let args = c.args in
    let bit = c.has_bit.ensures in (
      elim c.if-has_bit.branch [ then-has_bit x ↦ rw x.count-is (omega arith) | else-has_bit x ↦ rw x.count-is (omega arith) ],
      λ d t Q w ready e rows word.
          let h : at.i < length Q = rw e c.loop-i-test.true in
          let before = at.invariant.1 d t Q w ready e rows word in
          elim c.if-has_bit.branch [
            | then-has_bit x ↦ let there : is_set args.left at.i ≡ true = sym bit ∙ x.if-has_bit.true in
                let (is, reached) = x.label_line-l.ensures d.views _ (line_labelled ready (shown_line rows at.i h args.left word there)) in
                rw (x.words-is, x.count-is, x.settling-is)
                (written_more args.left Q at.i before h there (omega (arith, room (goal.at.loop-i-preserved c).In-loop-i)) _ is (answering ready reached))
            | else-has_bit x ↦ rw (x.words-is, x.count-is, x.settling-is) (written_same args.left Q at.i before h (sym bit ∙ x.if-has_bit.false))
          ],
    )

pub returns : goal.returns
returns c = λ d t Q w ready e rows word.
    written_all d _ Q c.loop-i.i _ _ _ (rw e c.loop-i-test.false) (c.loop-i.invariant.1 d t Q w ready e rows word)
