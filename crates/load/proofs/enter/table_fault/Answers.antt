-- `table_fault`: each test is the next check of a table's line; behind them all there is room for the table.
use native.Mathlib.Omega.{arith}
use borrow.Author.Tests.{not-true, not-false}
use Rattle.load.proofs.TableFaults.{table_malformed, table_outside, table_out_of_turn, table_taken}
use Rattle.load.proofs.enter.table_fault.Goals as goal

pub returns-then-not-t : goal.returns-then-not-t
returns-then-not-t c =
    record {
      fault_of_table = λ d o e f. table_malformed d o _ _ e f (not-true _ c.if-not-t.true);
      count_lt_most_tables = λ z. omega arith;
    }

pub returns-then-t : goal.returns-then-t
returns-then-t c =
    record {
      fault_of_table = λ d o e f. table_outside d o _ _ e f (not-false _ c.if-not-t.false) c.if-t.true;
      count_lt_most_tables = λ z. omega arith;
    }

pub overflow_sub-t : goal.overflow_sub-t
overflow_sub-t c = (c.requires (not-false _ c.if-not-t.false) c.if-t.false).0

pub returns-then-t-tables : goal.returns-then-t-tables
returns-then-t-tables c =
    let ok = not-false _ c.if-not-t.false in
    let inside = c.if-t.false in
    let limits = c.requires ok inside in
    record {
      fault_of_table = λ d o e f. table_out_of_turn d o _ _ e f ok inside limits.0 c.if-t-tables.true;
      count_lt_most_tables = λ z. omega arith;
    }

pub returns : goal.returns
returns c =
    let ok = not-false _ c.if-not-t.false in
    let inside = c.if-t.false in
    let limits = c.requires ok inside in
    record {
      fault_of_table = λ d o e f. table_taken d o _ _ e f ok inside limits.0 c.if-t-tables.false;
      count_lt_most_tables = λ z. omega (arith, limits.0, limits.1, c.if-t-tables.false);
    }
