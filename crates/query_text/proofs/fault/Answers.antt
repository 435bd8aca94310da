-- `fault`: each answer is the first check that the line fails; without one, it is no ninth line and within its limits.
use mathlib.Core.Path.{◌∙◌}
use native.Mathlib.Omega.{arith}
use Rattle.query_text.proofs.Faults.{ninth, past_limit, checked, is_within, is_good}
use Rattle.query_text.proofs.fault.Goals as goal

pub returns-then-count-ge-MOST_LINES : goal.returns-then-count-ge-MOST_LINES
returns-then-count-ge-MOST_LINES c =
    let a = c.args in
    record {
      fault_behind = λ w e A t n m r. ninth w e A a.count a.p n r c.if-count-ge-MOST_LINES.true;
      count_lt_most_lines = λ z. absurd (omega arith);
    }

pub returns-then-p : goal.returns-then-p
returns-then-p c =
    let a = c.args in
    record {
      fault_behind = λ w e A t n m r. past_limit w e A a.count a.p n r c.if-count-ge-MOST_LINES.false c.if-p.true;
      count_lt_most_lines = λ z. absurd (omega arith);
    }

pub check_line-requires : goal.check_line-requires
check_line-requires c = c.requires c.if-p.false

pub returns : goal.returns
returns c =
    let a = c.args in
    let few = c.if-count-ge-MOST_LINES.false in
    let o = c.if-p.false in
    record {
      fault_behind = λ w e A t n m r. c.check_line.ensures w e A t m (is_within a.p A r o) (is_good a.p A r o)
          ∙ checked w e A a.count a.p n r few o;
      count_lt_most_lines = λ z. (few, o);
    }
