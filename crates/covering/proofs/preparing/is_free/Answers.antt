use mathlib.Core.Path.{sym, ap, ◌∙◌}
use mathlib.Core.Bool.{false≢true}
use native.Mathlib.Omega.{arith}
use borrow.Author.Count.{below_more}
use Rattle.model.specs.declared.Term.{Term}
use Rattle.words.proofs.Answers.{holds_true}
use Rattle.model.proofs.Same.{same_term_iff}
use Rattle.covering.proofs.preparing.is_free.Goals as goal
use Rattle.covering.proofs.preparing.is_free.Goals.{else-q-p-via-then-q-p+else-same_term, else-q-p-via-else-q-p}

pub loop-q-preserved : goal.loop-q-preserved
loop-q-preserved c =
    below_more _ _ c.loop-q.invariant (elim c.else-q-p.branch [
      | else-q-p-via-then-q-p+else-same_term w ↦ λ e. absurd (false≢true (sym w.if-same_term.false ∙ w.same_term.ensures ∙ sym (holds_true _ ((same_term_iff _ _).1 (e ∙ sym w.term_at.ensures)))))
      | else-q-p-via-else-q-p w ↦ λ e. w.if-q-p.false
    ])

pub returns : goal.returns
returns c e =
    let first = c.term_at-t.ensures in
    record {
      there = c.requires.1;
      shows = ap (λ (t : Term). t.mark) (sym first) ∙ c.if-t-ne-SHOWN.false;
      alone = λ q h same. c.loop-q.invariant q (omega arith) (first ∙ same);
    }
