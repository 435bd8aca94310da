use mathlib.Core.Path.{◌≡◌, sym, ap, ◌∙◌}
use mathlib.Core.Bool.{◌&&◌}
use mathlib.Core.List.{List}
use Prim.Native.Nat.{ℕ}
use native.Mathlib.Omega.{arith}
use lib.Dec.{ltb}
use lib.ListN.{drop, length-take, length-drop}
use Rattle.text.specs.Lines.{same_bytes}
use Rattle.text.specs.Names.{table_terms}
use Rattle.text.proofs.NextLines.{front, LineAt, stops_here, ends_here}
use Rattle.cutting.proofs.Walk.{walked_none, stops, ends, cuts, walked_more}
use Rattle.cutting.proofs.next_cut.Goals as goal
use Rattle.cutting.proofs.next_cut.Goals.{After-is_cut, After-next_line-next, At-loop-at, Else-rest-next}

-- ---- the end of the line

abbrev turn : After-next_line-next → At-loop-at
turn c = (goal.at.After-next_line-next c).At-loop-at

abbrev text : After-next_line-next → List ℕ
text c = (turn c).args.input.now

abbrev rest : After-next_line-next → List ℕ
rest c = drop (turn c).loop-at.at (text c)

abbrev of_end : Else-rest-next → After-next_line-next
of_end c = (goal.at.Else-rest-next c).After-next_line-next

line_ends : (c : Else-rest-next) → LineAt (text (of_end c)) (turn (of_end c)).loop-at.at (of_end c).next_line-next.result
line_ends c = let d = of_end c in ends_here (text d) (turn d).loop-at.at d.next_line-next.ensures c.if-rest-next.false

-- ---- whether the line starts a query

abbrev of_cut : After-is_cut → Else-rest-next
of_cut c = (goal.at.After-is_cut c).Else-rest-next

is_start : (c : After-is_cut) → let d = of_end (of_cut c) in
    c.is_cut.result ≡ (ltb 0 (turn d).loop-at.at && same_bytes (front (rest d)) table_terms)
is_start c =
    let d = of_end (of_cut c) in
    c.is_cut.ensures
    ∙ ap (λ (l : List ℕ). ltb 0 (turn d).loop-at.at && same_bytes l table_terms) (line_ends (of_cut c)).bytes

-- ---- the needs

pub loop-at-init : goal.loop-at-init
loop-at-init c = walked_none _

pub slice_bounds-rest-count : goal.slice_bounds-rest-count
slice_bounds-rest-count c = omega arith

pub returns-then-rest-next : goal.returns-then-rest-next
returns-then-rest-next c =
    stops (turn (goal.at.returns-then-rest-next c).After-next_line-next).loop-at.invariant (turn (goal.at.returns-then-rest-next c).After-next_line-next).requires (stops_here (text (goal.at.returns-then-rest-next c).After-next_line-next) (turn (goal.at.returns-then-rest-next c).After-next_line-next).loop-at.at c.next_line-next.ensures c.if-rest-next.true)

pub slice_bounds-is_cut-length : goal.slice_bounds-is_cut-length
slice_bounds-is_cut-length c = simp (length-take, length-drop) (omega (arith, line_ends (goal.at.slice_bounds-is_cut-length c).Else-rest-next))

pub returns-then-is_cut : goal.returns-then-is_cut
returns-then-is_cut c =
    let e = of_cut (goal.at.returns-then-is_cut c).After-is_cut in cuts (turn (of_end e)).loop-at.invariant (line_ends e) (sym (is_start (goal.at.returns-then-is_cut c).After-is_cut) ∙ c.if-is_cut.true)

pub overflow_add-at : goal.overflow_add-at
overflow_add-at c = omega (arith, line_ends (of_cut (goal.at.overflow_add-at c).After-is_cut))

pub loop-at-smaller : goal.loop-at-smaller
loop-at-smaller c = omega (arith, line_ends (of_cut (goal.at.loop-at-smaller c).After-is_cut))

pub loop-at-preserved : goal.loop-at-preserved
loop-at-preserved c =
    let e = of_cut (goal.at.loop-at-preserved c).After-is_cut in
    walked_more (turn (of_end e)).loop-at.invariant (line_ends e) (sym (is_start (goal.at.loop-at-preserved c).After-is_cut) ∙ c.if-is_cut.false)

pub returns : goal.returns
returns c = ends c.loop-at.invariant c.requires c.loop-at-test.false
