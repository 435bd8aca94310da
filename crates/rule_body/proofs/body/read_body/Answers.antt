use mathlib.Core.Path.{◌≡◌, sym, ap, ◌∙◌}
use mathlib.Core.Logic.{inl, inr}
use mathlib.Core.Option.{some}
use native.Mathlib.Omega.{arith}
use borrow.Author.Rules.{rules, of_calls}
use lib.Dec.{eqb}
use Rattle.std.specs.Prelude.{Err}
use Rattle.std.proofs.lemmas.Fn.{always_returns_same}
use Rattle.rules.specs.Text.{closing, behind}
use Rattle.rule_text.proofs.Leads.{led_not, led_by}
use Rattle.text.proofs.Cuts.{Cut, cut}
use Rattle.rule_body.proofs.BodyWalk.{walked_none, next_unled, next_malformed, next_outside, next_tabled, next_within, body_read}
use Rattle.rule_body.proofs.body.read_body.Goals as goal
use Rattle.rule_body.proofs.body.read_body.Goals.{In-Some, In_ok-strip_prefix, in-Err-Outside, in-Ok, then-b-gt-MOST_LINES, else-b-gt-MOST_LINES}

pub loop-piece-init : goal.loop-piece-init
loop-piece-init c =
    let items = c.into_iter-piece-iterator.ensures.into_iter_gives in
    walked_none _ c.no_atoms-b.ensures (rw items c.split-piece-items.ensures.done) (rw items c.split-piece-items.ensures.rest)

-- the piece at hand
piece : (c : In-Some) → Cut closing c.loop-piece.piece-iterator c.in-Some.piece.now c.next.new.self
piece c =
    let next = c.in-Some.ensures.steps in
    cut closing _ _ _ next.0 next.1 (next.2 (λ b. eqb b closing) (always_returns_same _ _ _ (λ a r f k. search (rules, of_calls)))).1

pub returns-in_err-strip_prefix : goal.returns-in_err-strip_prefix
returns-in_err-strip_prefix c =
    rw c.from_residual.ensures
    (next_unled _ c.loop-piece.invariant (piece (goal.at.returns-in_err-strip_prefix c).In-Some)
    (led_not c.loop-piece.lead.now c.in-Some.piece.now c.in_err-strip_prefix.ensures.cases))

-- what stands behind its lead
field : (c : In_ok-strip_prefix) → behind c.loop-piece.lead.now c.in-Some.piece.now ≡ some c.in_ok-strip_prefix.field-0.now
field c =
    led_by c.loop-piece.lead.now c.in-Some.piece.now c.in_ok-strip_prefix.ensures.cases.0 c.in_ok-strip_prefix.ensures.cases.1

pub returns-in-Err-Malformed : goal.returns-in-Err-Malformed
returns-in-Err-Malformed c =
    let e = goal.at.returns-in-Err-Malformed c in
    next_malformed _ c.loop-piece.invariant (piece e.In-Some) (field e.In_ok-strip_prefix)
    (sym (ap Err c.in-Err-Malformed.field-0-is) ∙ c.in-Err-Malformed.ensures)

pub with_atom-b-requires : goal.with_atom-b-requires
with_atom-b-requires c =
    let e = goal.at.with_atom-b-requires c in (
      next_tabled _ c.loop-piece.invariant (piece e.In-Some) (field e.In_ok-strip_prefix) c.in-Ok.ensures,
      omega (arith, c.loop-piece.invariant.few, (piece e.In-Some).fewer, c.requires),
    )

pub loop-piece-preserved : goal.loop-piece-preserved
loop-piece-preserved c =
    let e = goal.at.loop-piece-preserved c in
    let inv = c.loop-piece.invariant in
    elim c.match-read_atom.branch [
      | in-Err-Outside w ↦ rw w.b-is (next_outside _ inv (piece e.In-Some) (field e.In_ok-strip_prefix) (sym (ap Err w.in-Err-Outside.field-0-is) ∙ w.in-Err-Outside.ensures) w.with_outside-b.ensures)
      | in-Ok w ↦ rw w.b-is (next_within _ inv (piece e.In-Some) (field e.In_ok-strip_prefix) w.in-Ok.ensures w.with_atom-b.ensures)
    ]

pub returns : goal.returns
returns c =
    body_read c.loop-piece.invariant c.in-None.ensures.steps.0
    (elim c.if-b-gt-MOST_LINES.branch [
      | then-b-gt-MOST_LINES w ↦ inl (w.if-b-gt-MOST_LINES.true, w.fault-is)
      | else-b-gt-MOST_LINES w ↦ inr (w.if-b-gt-MOST_LINES.false, w.fault-is)
    ])
