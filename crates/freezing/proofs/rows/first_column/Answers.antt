use mathlib.Core.Path.{refl, sym, ◌∙◌}
use mathlib.Core.Bool.{false≢true}
use native.Mathlib.Omega.{arith}
use borrow.Author.Count.{below_more}
use Rattle.words.proofs.Answers.{true_holds, holds_true}
use Rattle.model.proofs.Same.{same_term_iff}
use Rattle.freezing.proofs.rows.first_column.Goals as goal

pub returns-then-same_term : goal.returns-then-same_term
returns-then-same_term c =
    let here = c.term_at-u.ensures in
    record {
      upto = omega arith;
      same =
          sym here ∙ (same_term_iff _ _).0 (true_holds (sym c.same_term.ensures ∙ c.if-same_term.true))
          ∙ c.term_at-t.ensures;
      least = c.loop-q.invariant;
    }

pub loop-q-preserved : goal.loop-q-preserved
loop-q-preserved c =
    let here = c.term_at-u.ensures in
    let sought = c.term_at-t.ensures in
    below_more _ _ c.loop-q.invariant (λ e.
    false≢true (sym c.if-same_term.false ∙ c.same_term.ensures
    ∙ sym (holds_true _ ((same_term_iff _ _).1 (here ∙ e ∙ sym sought)))))

pub returns : goal.returns
returns c = record { upto = omega arith; same = refl; least = λ j l. c.loop-q.invariant j (omega arith) }
