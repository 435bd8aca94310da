-- `enter_table`: the line is turned back by the first of its checks, or its table is declared.
use mathlib.Core.Path.{sym, ◌∙◌}
use Rattle.model.specs.Fields.{table_line}
use Rattle.policy_text.specs.Text.{tables as table_block}
use Rattle.policy_lines.proofs.Limits.{table_limits}
use Rattle.load.proofs.Blocks.{entered_back, entered_more}
use Rattle.load.proofs.More.{tables_of}
use Rattle.load.proofs.TableFaults.{table_turned_back, table_declared}
use Rattle.load.proofs.enter.enter_table.Goals as goal

pub table_fault-fault-requires : goal.table_fault-fault-requires
table_fault-fault-requires c = table_limits (table_line c.args.line.now) _ c.read_table-t.ensures

pub returns-then-fault-ne0 : goal.returns-then-fault-ne0
returns-then-fault-ne0 c = λ d e.
    let l = c.args.line.now in
    let line = c.read_table-t.ensures in
    let known = tables_of d _ e in
    entered_back d l table_block _ _ e
    (table_turned_back d l _ _ known line _ (c.table_fault-fault.ensures.fault_of_table d (table_line l) known line) c.if-fault-ne0.true)

pub with_table-r-requires : goal.with_table-r-requires
with_table-r-requires c = c.table_fault-fault.ensures.count_lt_most_tables c.if-fault-ne0.false

pub returns : goal.returns
returns c = λ d e.
    let l = c.args.line.now in
    let line = c.read_table-t.ensures in
    let known = tables_of d _ e in
    let fault = c.table_fault-fault.ensures.fault_of_table d (table_line l) known line in
    entered_more d l table_block _ _ (c.with_table-r.ensures d e)
    (table_declared d l _ _ known line (sym c.if-fault-ne0.false ∙ fault))
