use mathlib.Core.Path.{◌≡◌, refl, subst}
use mathlib.Core.List.{List}
use Prim.Native.Nat.{ℕ, ◌+◌, ◌≤◌, ◌<◌}
use native.Mathlib.Omega.{arith}
use lib.ListN.{length, drop, length-take, length-drop}
use Rattle.text.proofs.Parts.{to_end}
use Rattle.run.specs.Next.{NextDecided}
use Rattle.run.specs.Sizes.{most_input, most_queries, line_long, lines_long}
use Rattle.run.proofs.Progress.{progress_none, progress_more, progress_all}
use Rattle.run.proofs.decide_all.Goals as goal
use Rattle.run.proofs.decide_all.Goals.{After-decide_next-next, After-slice_known-in-loop-at-1, At-loop-at}

-- ---- the query text

abbrev turn : After-decide_next-next → At-loop-at
turn c = (goal.at.After-decide_next-next c).At-loop-at

abbrev text : After-decide_next-next → List ℕ
text c = (turn c).args.queries.now

decided : (c : After-decide_next-next)
    → (let a = (turn c).args in
    NextDecided a.tables a.ready.now (turn c).loop-at.s (drop (turn c).loop-at.at (text c)) c.decide_next-next.result)
decided c =
    let a = (turn c).args in
    subst (λ (l : List ℕ). NextDecided a.tables a.ready.now (turn c).loop-at.s l c.decide_next-next.result)
    (to_end (turn c).loop-at.at (text c)) c.decide_next-next.ensures.next_decided

ends_within : (c : After-decide_next-next) → (turn c).loop-at.at + c.decide_next-next.result.end ≤ length (text c)
ends_within c =
    let h : (turn c).loop-at.at < length (text c) = c.loop-at-test.true in
    omega (arith, (decided c).cuts.within, length-drop (turn c).loop-at.at (text c))

-- ---- the number of queries, and the room for their lines

few : (c : After-decide_next-next) → (turn c).loop-at.query ≤ most_queries
few c =
    let s = (turn c) in
    let h : (turn c).loop-at.at < length (text c) = c.loop-at-test.true in
    let n : length (text c) ≤ most_input = s.requires.1 in
    omega (arith, (turn c).loop-at.invariant.1.few)

room : (c : After-decide_next-next) → (turn c).loop-at.to + line_long ≤ length (turn c).loop-at.out
room c =
    let s = (turn c) in
    let h : s.args.start + lines_long ≤ length s.args.out.now = s.requires.2 in
    let z : length (turn c).loop-at.out ≡ length s.args.out.now = (turn c).loop-at.invariant.1.wrote.size in
    omega (arith, (turn c).loop-at.invariant.1.room, few c)

-- ---- the needs

abbrev of-line : After-slice_known-in-loop-at-1 → After-decide_next-next
of-line c = (goal.at.After-slice_known-in-loop-at-1 c).After-decide_next-next

pub loop-at-init : goal.loop-at-init
loop-at-init c = (refl, progress_none _ _ _ _ _ _)

pub slice_bounds-decide_next-count : goal.slice_bounds-decide_next-count
slice_bounds-decide_next-count c = omega arith

pub decide_next-next-requires : goal.decide_next-next-requires
decide_next-next-requires c =
    let (some, short, _) = c.requires in
    (some, simp (length-take, length-drop) (omega arith), simp (length-take, length-drop) (omega (arith, short)), c.loop-at.invariant.0)

pub put_reply-to-requires : goal.put_reply-to-requires
put_reply-to-requires c = room (goal.at.put_reply-to-requires c).After-decide_next-next

pub overflow_add-query : goal.overflow_add-query
overflow_add-query c = omega (arith, few (of-line c))

pub overflow_add-at : goal.overflow_add-at
overflow_add-at c = omega (arith, ends_within (of-line (goal.at.overflow_add-at c).After-slice_known-in-loop-at-1))

pub loop-at-smaller : goal.loop-at-smaller
loop-at-smaller c = let e = of-line (goal.at.loop-at-smaller c).After-slice_known-in-loop-at-1 in omega (arith, ends_within e, (decided e).cuts.some)

pub loop-at-preserved : goal.loop-at-preserved
loop-at-preserved c =
    let e = of-line (goal.at.loop-at-preserved c).After-slice_known-in-loop-at-1 in
    let next = decided e in (
      e.decide_next-next.ensures.lines_len,
      progress_more (turn e).loop-at.invariant.1 e.decide_next-next.result.end next.cuts e.loop-at-test.true
          e.decide_next-next.result.decision c.ones.result c.put_reply-to.result _ next.gives c.ones.ensures
          c.put_reply-to.ensures.0 c.put_reply-to.ensures.1,
    )

pub shape_of-out : goal.shape_of-out
shape_of-out c = c.loop-at.invariant.1.wrote.size

pub returns : goal.returns
returns c =
    let inv = c.loop-at.invariant.1 in
    let n : length c.args.queries.now ≤ most_input = c.requires.1 in
    record {
      all_written = progress_all inv c.loop-at-test.false;
      upper_bound = omega (arith, inv.room, inv.few, inv.within);
    }
