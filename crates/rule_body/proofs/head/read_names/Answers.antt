use mathlib.Core.Path.{◌≡◌, sym, ◌∙◌}
use mathlib.Core.Option.{some}
use borrow.Author.Rules.{rules, of_calls}
use lib.Dec.{eqb}
use Rattle.std.proofs.lemmas.Fn.{always_returns_same}
use Rattle.rules.specs.Text.{comma, behind}
use Rattle.rule_text.proofs.Leads.{led_not, led_by}
use Rattle.text.proofs.Cuts.{Cut, cut}
use Rattle.rule_body.proofs.NamesRead.{names_empty, none_passed, next_unled, next_unnamed, next_named, all_named}
use Rattle.rule_body.proofs.head.read_names.Goals as goal
use Rattle.rule_body.proofs.head.read_names.Goals.{In-Some, In_ok-strip_prefix}

pub loop-piece-init : goal.loop-piece-init
loop-piece-init c =
    let items = c.into_iter-piece-iterator.ensures.into_iter_gives in
    none_passed (sym c.if-eq.ensures) (rw items c.split-piece-items.ensures.done) (rw items c.split-piece-items.ensures.rest)

-- the piece at hand
piece : (c : In-Some) → Cut comma c.loop-piece.piece-iterator c.in-Some.piece.now c.next.new.self
piece c =
    let next = c.in-Some.ensures.steps in
    cut comma _ _ _ next.0 next.1 (next.2 (λ b. eqb b comma) (always_returns_same _ _ _ (λ a r f k. search (rules, of_calls)))).1

pub returns-then-eq : goal.returns-then-eq
returns-then-eq c = names_empty (sym c.if-eq.ensures)

pub returns-in_err-strip_prefix : goal.returns-in_err-strip_prefix
returns-in_err-strip_prefix c =
    rw c.from_residual.ensures
    (next_unled c.loop-piece.invariant (piece (goal.at.returns-in_err-strip_prefix c).In-Some)
    (led_not c.loop-piece.lead.now c.in-Some.piece.now c.in_err-strip_prefix.ensures.cases))

-- what stands behind its lead
field : (c : In_ok-strip_prefix) → behind c.loop-piece.lead.now c.in-Some.piece.now ≡ some c.in_ok-strip_prefix.field-0.now
field c =
    led_by c.loop-piece.lead.now c.in-Some.piece.now c.in_ok-strip_prefix.ensures.cases.0 c.in_ok-strip_prefix.ensures.cases.1

pub returns-in_err-key : goal.returns-in_err-key
returns-in_err-key c =
    let e = goal.at.returns-in_err-key c in
    rw c.from_residual-in_err-key.ensures
    (next_unnamed c.loop-piece.invariant (piece e.In-Some) (field e.In_ok-strip_prefix) (sym c.read_name.ensures ∙ c.in_err-key.was))

pub loop-piece-preserved : goal.loop-piece-preserved
loop-piece-preserved c =
    let e = goal.at.loop-piece-preserved c in
    next_named c.loop-piece.invariant (piece e.In-Some) (field e.In_ok-strip_prefix) _ (sym c.read_name.ensures ∙ c.in_ok-key.was)
    c.place_of.ensures c.with_name-h.ensures

pub returns : goal.returns
returns c = all_named c.loop-piece.invariant c.in-None.ensures.steps.0
