use mathlib.Core.Path.{sym, ap, ◌∙◌}
use native.Mathlib.Omega.{arith}
use borrow.Author.Count.{below_more}
use Rattle.model.specs.declared.Term.{Term}
use Rattle.freezing.proofs.MatchedColumns.{match_constant, match_equal, is_matched, not_matched}
use Rattle.freezing.proofs.rows.matches.Goals as goal
use Rattle.freezing.proofs.rows.matches.Goals.{else-t-eq-CONSTANT-via-then-t-eq-CONSTANT+else-t-cells, else-t-eq-CONSTANT-via-else-t-eq-CONSTANT}

pub returns-then-t-cells : goal.returns-then-t-cells
returns-then-t-cells c =
    let read = c.term_at-t.ensures in
    not_matched (λ v r beside m.
    c.if-t-cells.true
    (ap (λ (t : Term). t.number) read
    ∙ match_constant v r beside m _ c.loop-p-test.true
    (omega (arith, ap (λ (t : Term). t.mark) read, c.if-t-eq-CONSTANT.true))))

pub returns-then-cells-q : goal.returns-then-cells-q
returns-then-cells-q c =
    not_matched (λ v r beside m.
    c.if-cells-q.true (omega (arith, match_equal v r beside m _ c.loop-p-test.true c.first_column-q.ensures)))

pub loop-p-preserved : goal.loop-p-preserved
loop-p-preserved c =
    let read = c.term_at-t.ensures in
    below_more _ _ c.loop-p.invariant (record {
      constants = λ e.
          elim c.else-t-eq-CONSTANT.branch [
            | else-t-eq-CONSTANT-via-then-t-eq-CONSTANT+else-t-cells w ↦ ap (λ (t : Term). t.number) (sym read) ∙ w.if-t-cells.false
            | else-t-eq-CONSTANT-via-else-t-eq-CONSTANT w ↦ absurd (w.if-t-eq-CONSTANT.false (omega (arith, e, ap (λ (t : Term). t.mark) read)))
          ];
      first = c.first_column-q.result;
      alike = c.first_column-q.ensures;
      equals = c.if-cells-q.false;
    })

pub returns : goal.returns
returns c = is_matched (λ p b. c.loop-p.invariant p (omega arith))
