use mathlib.Core.Path.{◌∙◌}
use mathlib.Core.List.{[]}
use Prim.Native.Nat.{◌≤◌, ◌<◌}
use native.Mathlib.Omega.{arith}
use Rattle.model.specs.Limits.{most_columns, most_lines}
use Rattle.cutting.specs.NextCut.{NextCut}
use Rattle.cutting.proofs.Walk.{ends}
use Rattle.scan.proofs.LinePlaces.{names_next}
use Rattle.scan.proofs.LentWidths.{few_columns}
use Rattle.scan.proofs.LinesTo.{lines_none, lines_more, lines_scanned, counted_few, past_names}
use Rattle.scan.proofs.first_query.Goals as goal
use Rattle.scan.proofs.first_query.Goals.{Else-count-eq-MOST_LINES, In_ok-width, else-loop-at-test, then-loop-at-test+then-names_at}

pub loop-at-init : goal.loop-at-init
loop-at-init c =
    (lines_none c.no_query-q.ensures (c.names_at.ensures c.if-not-names_at.false), c.requires.2)

-- ---- the next line

room : (c : Else-count-eq-MOST_LINES) → c.loop-at.q.count < most_lines
room c = omega (arith, counted_few c.loop-at.invariant.0, c.if-count-eq-MOST_LINES.false)

few : (c : In_ok-width) → c.in_ok-width.width ≤ most_columns
few c = few_columns c.requires.0 _ _ c.in_ok-t.ensures.1 c.in_ok-width.ensures

pub terms_at-requires : goal.terms_at-requires
terms_at-requires c =
    let there = c.in_ok-t.ensures.0.there in
    (record { short = c.requires.1; within = there.within }, few (goal.at.terms_at-requires c).In_ok-width)

pub offset_bounds-q-count : goal.offset_bounds-q-count
offset_bounds-q-count c = omega (arith, room (goal.at.offset_bounds-q-count c).Else-count-eq-MOST_LINES)

pub bounds-q-count : goal.bounds-q-count
bounds-q-count c = room (goal.at.bounds-q-count c).Else-count-eq-MOST_LINES

pub offset_bounds-q-count-in-loop-at : goal.offset_bounds-q-count-in-loop-at
offset_bounds-q-count-in-loop-at c = omega (arith, room (goal.at.offset_bounds-q-count-in-loop-at c).Else-count-eq-MOST_LINES)

pub bounds-q-count-in-loop-at : goal.bounds-q-count-in-loop-at
bounds-q-count-in-loop-at c = room (goal.at.bounds-q-count-in-loop-at c).Else-count-eq-MOST_LINES

pub lay_line-requires : goal.lay_line-requires
lay_line-requires c = omega (arith, room (goal.at.lay_line-requires c).Else-count-eq-MOST_LINES, c.loop-at.invariant.1)

pub overflow_add-q : goal.overflow_add-q
overflow_add-q c = omega (arith, room (goal.at.overflow_add-q c).Else-count-eq-MOST_LINES)

pub loop-at-preserved : goal.loop-at-preserved
loop-at-preserved c =
    let w = c.loop-at.invariant in (
      lines_more w.0 _ _ _ c.in_ok-t.ensures c.in_ok-width.ensures (few (goal.at.loop-at-preserved c).In_ok-width)
          c.in_ok-r.ensures (room (goal.at.loop-at-preserved c).Else-count-eq-MOST_LINES)
          (record { table = 0; terms = [] }) c.lay_line.ensures,
      c.lay_line.ensures.long ∙ w.1,
    )

pub returns-clause-scanned_under : goal.returns-clause-scanned_under
returns-clause-scanned_under c widths lends =
    let w = c.loop-at.invariant.0 in
    let end = c.in_ok-end.ensures in
    let cuts : NextCut c.args.input.now c.loop-at.at
    = elim c.loop-at-test.branch [
      | else-loop-at-test w' ↦ ends w.walked (omega (arith, past_names w, w.walked.within)) w'.loop-at-test.false
      | then-loop-at-test+then-names_at w' ↦ names_next w.walked (past_names w) (w'.names_at-in-loop-at.ensures w'.if-names_at.true)
    ] in
    rw end.here (lines_scanned w lends end.some end.clear cuts)
