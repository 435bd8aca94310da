use mathlib.Core.Path.{◌≡◌, ap, ◌∙◌}
use Rattle.std.specs.Prelude.{Ok}
use mathlib.Core.Bool.{false}
use mathlib.Core.List.{List}
use Prim.Native.Nat.{ℕ}
use native.Mathlib.Omega.{arith}
use lib.ListN.{drop, length-take, length-drop}
use borrow.Author.Tests.{not-true, not-false}
use Rattle.text.proofs.NextLines.{front, LineAt, stops_here, ends_here}
use Rattle.load.specs.Value.{loading_value}
use Rattle.load.specs.Steps.{progress_value, stepped_value}
use Rattle.load.specs.declared.Block.TheVariants.{Tables}
use Rattle.load.proofs.Blocks.{policy_of}
use Rattle.load.proofs.Walk.{walked_none, walked_more}
use Rattle.load.proofs.Walk.{stops, turns_back, too_early, not_begun, all_declared}
use Rattle.load.proofs.load_lines.Goals as goal
use Rattle.load.proofs.load_lines.Goals.{After-next_line-next, After-step-r, At-loop-at, Else-rest-next}

-- ---- the end of the line

abbrev turn : After-next_line-next → At-loop-at
turn c = (goal.at.After-next_line-next c).At-loop-at

abbrev text : After-next_line-next → List ℕ
text c = (turn c).args.text.now

abbrev rest : After-next_line-next → List ℕ
rest c = drop (turn c).loop-at.at (text c)

abbrev of_end : Else-rest-next → After-next_line-next
of_end c = (goal.at.Else-rest-next c).After-next_line-next

ends : (c : Else-rest-next) → LineAt (text (of_end c)) (turn (of_end c)).loop-at.at (of_end c).next_line-next.result
ends c = let d = of_end c in ends_here (text d) (turn d).loop-at.at d.next_line-next.ensures c.if-rest-next.false

-- ---- the step of the line

abbrev of-step : After-step-r → Else-rest-next
of-step c = (goal.at.After-step-r c).Else-rest-next

abbrev start : (c : After-step-r) → At-loop-at
start c = turn (of_end (of-step c))

stepped : (c : After-step-r) → let w = (start c).loop-at.invariant in
    c.step-r.result ≡ stepped_value w.block w.begun w.declared (front (rest (of_end (of-step c))))
stepped c =
    let w = (start c).loop-at.invariant in
    c.step-r.ensures w.block w.begun w.declared w.held
    ∙ ap (stepped_value w.block w.begun w.declared) (ends (of-step c)).bytes

-- ---- the needs

pub loop-at-init : goal.loop-at-init
unfolding progress_value
loop-at-init c =
    walked_none c.args.text.now _ _
    (λ i. record { block = Tables; started = false; policy = c.empty_policy.ensures i })

pub slice_bounds-rest-count : goal.slice_bounds-rest-count
slice_bounds-rest-count c = omega arith

pub slice_bounds-rest-start : goal.slice_bounds-rest-start
slice_bounds-rest-start c = omega arith

pub slice_bounds-rest-end : goal.slice_bounds-rest-end
slice_bounds-rest-end c = omega arith

pub next_line-next-requires : goal.next_line-next-requires
next_line-next-requires c =
    omega (arith, c.loop-at.invariant.number, c.loop-at.invariant.inside, c.requires)

pub returns-then-rest-next : goal.returns-then-rest-next
returns-then-rest-next c =
    c.refused.ensures
    ∙ ap loading_value (stops (turn (goal.at.returns-then-rest-next c).After-next_line-next).loop-at.invariant c.loop-at-test.true
    (stops_here (text (goal.at.returns-then-rest-next c).After-next_line-next) (turn (goal.at.returns-then-rest-next c).After-next_line-next).loop-at.at c.next_line-next.ensures c.if-rest-next.true))

pub slice_bounds-step-length : goal.slice_bounds-step-length
slice_bounds-step-length c = simp (length-take, length-drop) (omega (arith, ends (goal.at.slice_bounds-step-length c).Else-rest-next))

pub step-r-requires : goal.step-r-requires
step-r-requires c =
    let t = turn (of_end (goal.at.step-r-requires c).Else-rest-next) in
    simp (length-take, length-drop) (omega (arith, t.requires))

pub returns-then-r-ne0 : goal.returns-then-r-ne0
returns-then-r-ne0 c =
    c.refused-then-r-ne0.ensures
    ∙ ap loading_value (turns_back (start (goal.at.returns-then-r-ne0 c).After-step-r).loop-at.invariant (ends (of-step (goal.at.returns-then-r-ne0 c).After-step-r)) c.step-r.result (stepped (goal.at.returns-then-r-ne0 c).After-step-r) c.if-r-ne0.true)

pub overflow_add-at : goal.overflow_add-at
overflow_add-at c = let s = (goal.at.overflow_add-at c).After-step-r in omega (arith, ends (of-step s), (start s).requires.0)

pub loop-at-smaller : goal.loop-at-smaller
loop-at-smaller c = omega (arith, ends (of-step (goal.at.loop-at-smaller c).After-step-r))

pub loop-at-preserved : goal.loop-at-preserved
loop-at-preserved c =
    let s = (goal.at.loop-at-preserved c).After-step-r in
    let d = of-step s in
    walked_more (start s).loop-at.invariant (ends d) s.step-r.result (stepped s) (of_end d).next_line-next.ensures.number c.if-r-ne0.false

pub returns-in-Tables : goal.returns-in-Tables
returns-in-Tables c =
    c.refused-in-Tables.ensures ∙ ap loading_value (too_early c.loop-at.invariant c.loop-at-test.false c.in-Tables.is)

pub returns-then-not-g : goal.returns-then-not-g
returns-then-not-g c =
    c.refused-then-not-g.ensures
    ∙ ap loading_value
    (let end = c in
    not_begun end.loop-at.invariant end.loop-at-test.false (not-true _ c.if-not-g.true))

pub returns : goal.returns
unfolding loading_value
returns c =
    let w = c.loop-at.invariant in
    ap Ok (policy_of w.block w.begun w.declared _ w.held)
    ∙ ap loading_value
    (all_declared w c.loop-at-test.false c.in_default.not-Tables c.in_default.not-Views (not-false _ c.if-not-g.false))
