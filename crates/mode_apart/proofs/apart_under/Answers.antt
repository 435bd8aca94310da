-- `apart_under`: the rows that the desk gives, that the query is settled, or its refusal.
use mathlib.Core.Path.{sym}
use mathlib.Core.List.{List, ◌∷◌}
use Prim.Native.Nat.{◌*◌, ◌≤◌}
use native.Mathlib.Omega.{arith}
use borrow.Author.Rules.{rules}
use lib.ListN.{length, take, length-take}
use lib.Seq.{length-take-le}
use Rattle.theory.specs.Archive.{Row}
use Rattle.text.specs.Names.{bytes}
use Rattle.validity.specs.Loadable.{Loadable}
use Rattle.freezing.specs.Cells.{row_cells}
use Rattle.apart.specs.Archives.{most_rows}
use Rattle.page.specs.Sizes.{Shown}
use Rattle.page.specs.Refusal.{query_refused}
use Rattle.mode_apart.specs.ApartPage.{apart_lines, settled_line, ApartUnder}
use Rattle.mode_apart.specs.Rows.{AreRows}
use Rattle.mode_apart.proofs.Replied.{apart_given, apart_settled, apart_refused}
use Rattle.mode_apart.proofs.apart_under.Goals as goal
use Rattle.mode_apart.proofs.apart_under.Goals.{After-tell_apart, In-Ok-Apart, In-Err, Start}

-- ---- the reply, and what it says under any loading of the policy

abbrev begun : After-tell_apart → Start
begun c = (goal.at.After-tell_apart c).Start

abbrev of-rows : In-Ok-Apart → After-tell_apart
of-rows c = (goal.at.In-Ok-Apart c).After-tell_apart

abbrev of_number : In-Err → After-tell_apart
of_number c = (goal.at.In-Err c).After-tell_apart

tells : (c : In-Ok-Apart) →
    let a = of-rows c in
    let s = begun a in
    (l : Loadable s.args.p) →
    let k = c.in-Ok-Apart.rows in
    let cells = a.tell_apart.new.out in
    (k ≤ most_rows) × (k * row_cells ≤ length cells)
    × ((odd : Row)
    × (others : List Row)
    × AreRows s.args.p.tables (take (k * row_cells) cells) (odd ∷ others)
    × ApartUnder l.declared s.args.n s.args.query.now (apart_lines odd others))
tells c l =
    let x = apart_given (of-rows c).tell_apart.ensures (search rules) l (rw c.in-Ok-Apart.field-0-is at c.in-Ok-Apart.is) in
    (x.few, x.inside, (x.odd, x.others, x.rows, x.page))

refuses : (c : In-Err) →
    let s = begun (of_number c) in
    (l : Loadable s.args.p) →
    Shown s.args.query.now c.in-Err.field-0.line
    × ApartUnder l.declared s.args.n s.args.query.now
    (query_refused s.args.query.now c.in-Err.field-0.number c.in-Err.field-0.line)
refuses c l = apart_refused (of_number c).tell_apart.ensures (search rules) l c.in-Err.is

-- ---- the needs

pub overflow_mul-end : goal.overflow_mul-end
overflow_mul-end c = omega (arith, (tells (goal.at.overflow_mul-end c).In-Ok-Apart (begun (of-rows (goal.at.overflow_mul-end c).In-Ok-Apart)).requires.0).0)

pub slice_bounds-cells-end : goal.slice_bounds-cells-end
slice_bounds-cells-end c = (tells (goal.at.slice_bounds-cells-end c).In-Ok-Apart (begun (of-rows (goal.at.slice_bounds-cells-end c).In-Ok-Apart)).requires.0).1

pub slice_bounds-put_apart-end : goal.slice_bounds-put_apart-end
slice_bounds-put_apart-end c = sym (length-take-le _ _ (tells (goal.at.slice_bounds-put_apart-end c).In-Ok-Apart (begun (of-rows (goal.at.slice_bounds-put_apart-end c).In-Ok-Apart)).requires.0).1)

pub put_apart-requires : goal.put_apart-requires
put_apart-requires c =
    let s = begun (of-rows (goal.at.put_apart-requires c).In-Ok-Apart) in
    let (few, inside, (odd, others, rows, page)) = tells (goal.at.put_apart-requires c).In-Ok-Apart s.requires.0 in
    (s.requires.1, simp length-take (omega (arith, few)), (odd, others, rows))

pub refusal_page-requires : goal.refusal_page-requires
refusal_page-requires c =
    let s = begun (of_number (goal.at.refusal_page-requires c).In-Err) in
    (omega arith, s.requires.1, (refuses (goal.at.refusal_page-requires c).In-Err s.requires.0).0)

pub returns-in-Ok-Settled : goal.returns-in-Ok-Settled
unfolding settled_line bytes
returns-in-Ok-Settled c =
    λ l.
    let e = rw c.in-Ok-Settled.field-0-is at c.in-Ok-Settled.is in
    record { page = settled_line; is_page = apart_settled c.tell_apart.ensures (search rules) l e; wrote = c.put_bytes.ensures }

pub returns-in-Ok-Apart : goal.returns-in-Ok-Apart
returns-in-Ok-Apart c =
    λ l.
    let (few, inside, (odd, others, rows, page)) = tells (goal.at.returns-in-Ok-Apart c).In-Ok-Apart l in
    record { page = apart_lines odd others; is_page = page; wrote = c.put_apart.ensures odd others rows }

pub returns-in-Err : goal.returns-in-Err
unfolding query_refused bytes
returns-in-Err c =
    λ l.
    record { page = _; is_page = (refuses (goal.at.returns-in-Err c).In-Err l).1; wrote = c.refusal_page.ensures }
