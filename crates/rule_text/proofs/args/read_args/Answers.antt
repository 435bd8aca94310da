use mathlib.Core.Path.{◌≡◌, refl}
use mathlib.Core.Option.{some}
use native.Mathlib.Omega.{arith}
use borrow.Author.Rules.{rules, of_calls}
use lib.Dec.{eqb}
use Rattle.std.proofs.lemmas.Fn.{always_returns_same}
use Rattle.model.specs.Value.{unused_term, terms_value}
use Rattle.rules.specs.Text.{comma, behind}
use Rattle.rule_text.specs.Atoms.{good_atom}
use Rattle.rule_text.proofs.Leads.{led_not, led_by}
use Rattle.text.proofs.Cuts.{Cut, cut}
use Rattle.rule_text.proofs.ArgsRead.{args_none, next_unled, next_malformed, next_outside, next_within, all_outside, all_within}
use Rattle.rule_text.proofs.args.read_args.Goals as goal
use Rattle.rule_text.proofs.args.read_args.Goals.{In-Some, In-Some-strip_prefix, in-Outside, in-Within}

pub loop-piece-init : goal.loop-piece-init
unfolding good_atom terms_value unused_term
loop-piece-init c =
    let items = c.into_iter-piece-iterator.ensures.into_iter_gives in
    args_none refl (rw items c.split-piece-items.ensures.done) (rw items c.split-piece-items.ensures.rest)

-- the piece at hand
piece : (c : In-Some) → Cut comma c.loop-piece.piece-iterator c.in-Some.piece.now c.next.new.self
piece c =
    let next = c.in-Some.ensures.steps in
    cut comma _ _ _ next.0 next.1 (next.2 (λ b. eqb b comma) (always_returns_same _ _ _ (λ a r f k. search (rules, of_calls)))).1

-- what stands behind its lead
field : (c : In-Some-strip_prefix) → behind c.loop-piece.lead.now c.in-Some.piece.now ≡ some c.in-Some-strip_prefix.field.now
field c =
    led_by c.loop-piece.lead.now c.in-Some.piece.now c.in-Some-strip_prefix.ensures.cases.0 c.in-Some-strip_prefix.ensures.cases.1

pub returns-in_default : goal.returns-in_default
returns-in_default c =
    next_unled c.loop-piece.invariant (piece (goal.at.returns-in_default c).In-Some) (led_not c.loop-piece.lead.now c.in-Some.piece.now c.in_default.ensures.cases)

pub returns-in-Malformed : goal.returns-in-Malformed
returns-in-Malformed c =
    let e = goal.at.returns-in-Malformed c in
    next_malformed c.loop-piece.invariant (piece e.In-Some) (field e.In-Some-strip_prefix) c.in-Malformed.ensures

pub with_arg-a-requires : goal.with_arg-a-requires
with_arg-a-requires c = omega (arith, c.loop-piece.invariant.few, (piece (goal.at.with_arg-a-requires c).In-Some).fewer, c.requires)

pub loop-piece-preserved : goal.loop-piece-preserved
loop-piece-preserved c =
    let e = goal.at.loop-piece-preserved c in
    let inv = c.loop-piece.invariant in
    elim c.match-read_arg.branch [
      | in-Outside w ↦ rw (w.a-is, w.outside-is) (next_outside inv (piece e.In-Some) (field e.In-Some-strip_prefix) w.in-Outside.ensures)
      | in-Within w ↦ rw (w.a-is, w.outside-is) (next_within inv (piece e.In-Some) (field e.In-Some-strip_prefix) w.in-Within.ensures w.with_arg-a.ensures)
    ]

pub returns-then-outside : goal.returns-then-outside
returns-then-outside c = all_outside c.loop-piece.invariant c.in-None.ensures.steps.0 c.if-outside.true

pub returns : goal.returns
returns c = all_within c.loop-piece.invariant c.in-None.ensures.steps.0 c.if-outside.false
