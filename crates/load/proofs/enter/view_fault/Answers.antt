-- `view_fault`: each test is the next check of a view's line; behind them all there is room for the view.
use mathlib.Core.Path.{◌∙◌}
use mathlib.Core.List.{[]}
use native.Mathlib.Omega.{arith}
use borrow.Author.Tests.{not-true, not-false}
use Rattle.model.proofs.Variables.{marked_none}
use Rattle.load.proofs.ViewFaults.{view_malformed, view_outside, view_out_of_turn, view_checked}
use Rattle.load.proofs.ViewFaults.{view_within, view_line_within, view_line_lem}
use Rattle.load.proofs.enter.view_fault.Goals as goal

pub returns-then-not-e : goal.returns-then-not-e
returns-then-not-e c =
    record {
      fault_of_view = λ d o t n e. view_malformed d o _ _ n e (not-true _ c.if-not-e.true);
      views_lt_most_views = λ z. omega arith;
    }

pub returns-then-e : goal.returns-then-e
returns-then-e c =
    record {
      fault_of_view = λ d o t n e. view_outside d o _ _ n e (not-false _ c.if-not-e.false) c.if-e.true;
      views_lt_most_views = λ z. omega arith;
    }

pub overflow_sub-e : goal.overflow_sub-e
overflow_sub-e c = (c.requires.0 (not-false _ c.if-not-e.false) c.if-e.false).0

pub returns-then-e-views : goal.returns-then-e-views
returns-then-e-views c =
    let ok = not-false _ c.if-not-e.false in
    let inside = c.if-e.false in
    let limits = c.requires.0 ok inside in
    record {
      fault_of_view = λ d o t n e. view_out_of_turn d o _ _ n e ok inside limits.0 c.if-e-views.true;
      views_lt_most_views = λ z. omega arith;
    }

pub check_line-requires : goal.check_line-requires
check_line-requires c =
    c.requires.1 (not-false _ c.if-not-e.false) c.if-e.false

pub returns : goal.returns
returns c =
    let ok = not-false _ c.if-not-e.false in
    let inside = c.if-e.false in
    let limits = c.requires.0 ok inside in
    record {
      fault_of_view = λ d o t n e. c.check_line.ensures d.widths [] (view_within d o _ _ n e ok inside).entry.value t marked_none
          (view_line_within d o _ _ n e ok inside) (view_line_lem d o _ _ n e ok inside)
          ∙ view_checked d o _ _ n e ok inside limits.0 c.if-e-views.false;
      views_lt_most_views = λ z. omega (arith, limits.0, limits.1, c.if-e-views.false);
    }
