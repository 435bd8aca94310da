use mathlib.Core.Path.{◌≡◌, sym, ap, ◌∙◌}
use mathlib.Core.Bool.{false}
use mathlib.Core.List.{List}
use mathlib.Core.Option.{some}
use Prim.Native.Nat.{ℕ, ◌<◌}
use native.Mathlib.Omega.{arith}
use borrow.Author.Tests.{not-true, not-false}
use lib.ListN.{drop, length-take, length-drop}
use Rattle.theory.specs.Query.{Line}
use Rattle.model.specs.Limits.{most_lines}
use Rattle.model.specs.Fields.{query_line}
use Rattle.model.specs.Value.{tables_value}
use Rattle.model.specs.Parsed.{parsed_line}
use Rattle.query_text.specs.Text.{fault}
use Rattle.query_text.specs.Value.{reading_value}
use Rattle.query_text.proofs.Faults.{well_formed, malformed, is_good, is_tabled}
use Rattle.text.proofs.NextLines.{front, LineAt, stops_here, ends_here}
use Rattle.query_text.proofs.Walk.{walked_none, counted, stops, empty, done, wrong, faulty, walked_more}
use Rattle.query_text.proofs.read_lines.Goals as goal
use Rattle.query_text.proofs.read_lines.Goals.{After-fault-f, After-next_line-next, After-read_line-p, At-loop-at, Else-f-ne0, Else-not-p, Else-rest-next}

-- ---- the end of the line

abbrev turn : After-next_line-next → At-loop-at
turn c = (goal.at.After-next_line-next c).At-loop-at

abbrev text : After-next_line-next → List ℕ
text c = (turn c).args.text.now

abbrev rest : After-next_line-next → List ℕ
rest c = drop (turn c).loop-at.at (text c)

abbrev of_end : Else-rest-next → After-next_line-next
of_end c = (goal.at.Else-rest-next c).After-next_line-next

ends : (c : Else-rest-next) → LineAt (text (of_end c)) (turn (of_end c)).loop-at.at (of_end c).next_line-next.result
ends c = let d = of_end c in ends_here (text d) (turn d).loop-at.at d.next_line-next.ensures c.if-rest-next.false

-- ---- what the line says

abbrev of-read : After-read_line-p → Else-rest-next
of-read c = (goal.at.After-read_line-p c).Else-rest-next

line_read : (c : After-read_line-p) → c.read_line-p.result ≡ parsed_line (query_line (front (rest (of_end (of-read c)))))
line_read c =
    c.read_line-p.ensures ∙ ap (λ (l : List ℕ). parsed_line (query_line l)) (ends (of-read c)).bytes

abbrev of-well : Else-not-p → After-read_line-p
of-well c = (goal.at.Else-not-p c).After-read_line-p

says : (c : Else-not-p) → (A : Line) × (query_line (front (rest (of_end (of-read (of-well c))))) ≡ some A)
says c =
    let d = of-well c in
    well_formed d.read_line-p.result (query_line (front (rest (of_end (of-read d))))) (line_read d) (not-false _ c.if-not-p.false)

line_says : (c : Else-not-p) → (of-well c).read_line-p.result ≡ parsed_line (some (says c).0)
line_says c = line_read (of-well c) ∙ ap parsed_line (says c).1

-- ---- its fault behind the lines so far

abbrev of-fault : After-fault-f → Else-rest-next
of-fault c = of-read (of-well (goal.at.After-fault-f c).Else-not-p)

abbrev start : After-fault-f → At-loop-at
start c = turn (of_end (of-fault c))

fault_is : (c : After-fault-f) (widths : List ℕ) → (start c).args.tables ≡ tables_value widths
    → c.fault-f.result ≡ fault widths (start c).loop-at.invariant.earlier (says (goal.at.After-fault-f c).Else-not-p).0
fault_is c widths t =
    let w = (start c).loop-at.invariant in
    c.fault-f.ensures.fault_behind widths w.earlier (says (goal.at.After-fault-f c).Else-not-p).0 t (counted w) w.marked (line_says (goal.at.After-fault-f c).Else-not-p)

-- without a fault it is no ninth line, and within its limits
faultless : (c : Else-f-ne0)
    → ((start (goal.at.Else-f-ne0 c).After-fault-f).loop-at.q.count < most_lines) × ((of-well (goal.at.Else-f-ne0 c).Else-not-p).read_line-p.result.outside ≡ false)
faultless c = c.fault-f.ensures.count_lt_most_lines c.if-f-ne0.false

-- ---- the needs

pub loop-at-init : goal.loop-at-init
loop-at-init c = walked_none _ _ _ _ c.no_query-q.ensures

pub slice_bounds-rest-count : goal.slice_bounds-rest-count
slice_bounds-rest-count c = omega arith

pub next_line-next-requires : goal.next_line-next-requires
next_line-next-requires c = omega (arith, c.loop-at.invariant)

pub returns-then-rest-next : goal.returns-then-rest-next
returns-then-rest-next c =
    λ widths t.
    c.refused.ensures
    ∙ ap reading_value (stops (turn (goal.at.returns-then-rest-next c).After-next_line-next).loop-at.invariant widths t c.loop-at-test.true
    (stops_here (text (goal.at.returns-then-rest-next c).After-next_line-next) (turn (goal.at.returns-then-rest-next c).After-next_line-next).loop-at.at c.next_line-next.ensures c.if-rest-next.true))

pub slice_bounds-read_line-length : goal.slice_bounds-read_line-length
slice_bounds-read_line-length c = simp (length-take, length-drop) (omega (arith, ends (goal.at.slice_bounds-read_line-length c).Else-rest-next))

pub read_line-p-requires : goal.read_line-p-requires
read_line-p-requires c = simp (length-take, length-drop) (omega (arith, (turn (of_end (goal.at.read_line-p-requires c).Else-rest-next)).requires))

pub returns-then-not-p : goal.returns-then-not-p
returns-then-not-p c =
    let d = of-read (goal.at.returns-then-not-p c).After-read_line-p in
    λ widths t.
    c.refused-then-not-p.ensures
    ∙ ap reading_value (wrong (turn (of_end d)).loop-at.invariant (ends d)
    (malformed c.read_line-p.result (query_line (front (rest (of_end d)))) (line_read (goal.at.returns-then-not-p c).After-read_line-p) (not-true _ c.if-not-p.true)) widths t)

pub fault-f-requires : goal.fault-f-requires
fault-f-requires c = is_tabled (of-well c).read_line-p.result (says c).0 (line_says c)

pub returns-then-f-ne0 : goal.returns-then-f-ne0
returns-then-f-ne0 c =
    let a = says (goal.at.returns-then-f-ne0 c).Else-not-p in
    λ widths t.
    c.refused-then-f-ne0.ensures
    ∙ ap reading_value
    (faulty (start (goal.at.returns-then-f-ne0 c).After-fault-f).loop-at.invariant (ends (of-fault (goal.at.returns-then-f-ne0 c).After-fault-f)) a.0 a.1 c.fault-f.result c.if-f-ne0.true widths t
    (fault_is (goal.at.returns-then-f-ne0 c).After-fault-f widths t))

pub offset_bounds-q-count : goal.offset_bounds-q-count
offset_bounds-q-count c = omega (arith, (faultless (goal.at.offset_bounds-q-count c).Else-f-ne0).0)

pub bounds-q-count : goal.bounds-q-count
bounds-q-count c = (faultless (goal.at.bounds-q-count c).Else-f-ne0).0

pub overflow_add-q : goal.overflow_add-q
overflow_add-q c = omega (arith, (faultless (goal.at.overflow_add-q c).Else-f-ne0).0)

pub overflow_add-at : goal.overflow_add-at
overflow_add-at c =
    let f = (goal.at.overflow_add-at c).After-fault-f in
    omega (arith, ends (of-fault f), (start f).requires.0)

pub loop-at-smaller : goal.loop-at-smaller
loop-at-smaller c = omega (arith, ends (of-fault (goal.at.loop-at-smaller c).After-fault-f))

pub loop-at-preserved : goal.loop-at-preserved
loop-at-preserved c =
    let e = (goal.at.loop-at-preserved c).Else-f-ne0 in
    let f = (goal.at.loop-at-preserved c).After-fault-f in
    let g = (goal.at.loop-at-preserved c).Else-not-p in
    let d = of-fault f in
    let w = (start f).loop-at.invariant in
    let a = says g in
    let p = (of-well g).read_line-p.result in
    walked_more w (ends d) a.0 a.1 p (is_good p a.0 (line_says g) (faultless e).1)
    (omega (arith, counted w, (faultless e).0)) (of_end d).next_line-next.ensures.number (λ widths t. sym e.if-f-ne0.false ∙ fault_is f widths t)

pub returns-then-q-eq0 : goal.returns-then-q-eq0
returns-then-q-eq0 c = λ widths t.
    c.refused-then-q-eq0.ensures ∙ ap reading_value (empty c.loop-at.invariant widths t c.loop-at-test.false c.if-q-eq0.true)

pub returns : goal.returns
returns c = λ widths t. done c.loop-at.invariant widths t c.loop-at-test.false c.if-q-eq0.false
