-- `enter_view`: the line is turned back by the first of its checks, or its view is declared.
use mathlib.Core.Path.{sym, ◌∙◌}
use Rattle.model.specs.Fields.{view_line}
use Rattle.policy_text.specs.Text.{views as view_block}
use Rattle.policy_lines.proofs.Limits.{view_limits, view_tabled}
use Rattle.load.proofs.Blocks.{entered_back, entered_more}
use Rattle.load.proofs.More.{tables_of, view_count_of}
use Rattle.load.proofs.ViewFaults.{view_turned_back, new_view, new_view_value, view_declared}
use Rattle.load.proofs.enter.enter_view.Goals as goal

pub view_fault-fault-requires : goal.view_fault-fault-requires
view_fault-fault-requires c =
    let o = view_line c.args.line.now in
    (view_limits o _ c.read_view-e.ensures, view_tabled o _ c.read_view-e.ensures)

pub returns-then-fault-ne0 : goal.returns-then-fault-ne0
returns-then-fault-ne0 c = λ d e.
    let l = c.args.line.now in
    let line = c.read_view-e.ensures in
    let count = view_count_of d _ e in
    entered_back d l view_block _ _ e
    (view_turned_back d l _ _ count line _ (c.view_fault-fault.ensures.fault_of_view d (view_line l) (tables_of d _ e) count line) c.if-fault-ne0.true)

pub with_view-r-requires : goal.with_view-r-requires
with_view-r-requires c = c.view_fault-fault.ensures.views_lt_most_views c.if-fault-ne0.false

pub returns : goal.returns
returns c = λ d e.
    let l = c.args.line.now in
    let line = c.read_view-e.ensures in
    let count = view_count_of d _ e in
    let fault = sym c.if-fault-ne0.false ∙ c.view_fault-fault.ensures.fault_of_view d (view_line l) (tables_of d _ e) count line in
    entered_more d l view_block _ _
    (c.with_view-r.ensures d (new_view d l _ _ count line fault) e (new_view_value d l _ _ count line fault))
    (view_declared d l _ _ count line fault)
