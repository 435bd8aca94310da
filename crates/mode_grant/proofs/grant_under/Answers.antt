-- `grant_under`: the list that the desk gives, that there is none, or its refusal.
use mathlib.Core.Path.{sym}
use Prim.Native.Nat.{◌≤◌}
use native.Mathlib.Omega.{arith}
use borrow.Author.Rules.{rules}
use lib.ListN.{length, take, length-take}
use lib.Seq.{length-take-le}
use Rattle.text.specs.Names.{bytes}
use Rattle.model.specs.Limits.{most_views}
use Rattle.validity.specs.Loadable.{Loadable}
use Rattle.page.specs.Sizes.{Shown}
use Rattle.page.specs.Refusal.{query_refused}
use Rattle.view_texts.specs.ViewTexts.{InRange}
use Rattle.mode_grant.specs.GrantPage.{grant_lines, none_line, GrantUnder}
use Rattle.mode_grant.proofs.Replied.{grant_given, grant_none, grant_refused}
use Rattle.mode_grant.proofs.grant_under.Goals as goal
use Rattle.mode_grant.proofs.grant_under.Goals.{After-smallest_grant, In-Ok-Some, In-Err, Start}

-- ---- the reply, and what it says under any loading of the policy

abbrev begun : After-smallest_grant → Start
begun c = (goal.at.After-smallest_grant c).Start

abbrev of-count : In-Ok-Some → After-smallest_grant
of-count c = (goal.at.In-Ok-Some c).After-smallest_grant

abbrev of_number : In-Err → After-smallest_grant
of_number c = (goal.at.In-Err c).After-smallest_grant

adds : (c : In-Ok-Some) →
    let a = of-count c in
    let s = begun a in
    (l : Loadable s.args.p) →
    let k = c.in-Ok-Some.count in
    let cells = a.smallest_grant.new.out in
    (k ≤ most_views) × (k ≤ length cells) × InRange (take k cells)
    × GrantUnder l.declared s.args.n s.args.query.now (grant_lines l.declared.views (take k cells))
adds c l =
    let x = grant_given (of-count c).smallest_grant.ensures (search rules) l (rw c.in-Ok-Some.field-0-is at c.in-Ok-Some.is) in (x.few, x.inside, x.ranged, x.page)

refuses : (c : In-Err) →
    let s = begun (of_number c) in
    (l : Loadable s.args.p) →
    Shown s.args.query.now c.in-Err.field-0.line
    × GrantUnder l.declared s.args.n s.args.query.now
    (query_refused s.args.query.now c.in-Err.field-0.number c.in-Err.field-0.line)
refuses c l = grant_refused (of_number c).smallest_grant.ensures (search rules) l c.in-Err.is

pub slice_bounds-cells-end : goal.slice_bounds-cells-end
slice_bounds-cells-end c = (adds (goal.at.slice_bounds-cells-end c).In-Ok-Some (begun (of-count (goal.at.slice_bounds-cells-end c).In-Ok-Some)).requires.0).1

pub slice_bounds-put_grant-end : goal.slice_bounds-put_grant-end
slice_bounds-put_grant-end c = sym (length-take-le _ _ (adds (goal.at.slice_bounds-put_grant-end c).In-Ok-Some (begun (of-count (goal.at.slice_bounds-put_grant-end c).In-Ok-Some)).requires.0).1)

pub put_grant-requires : goal.put_grant-requires
put_grant-requires c =
    let s = begun (of-count (goal.at.put_grant-requires c).In-Ok-Some) in
    let t = adds (goal.at.put_grant-requires c).In-Ok-Some s.requires.0 in
    (simp length-take (omega (arith, t.0)), t.2, s.requires.1)

pub refusal_page-requires : goal.refusal_page-requires
refusal_page-requires c =
    let s = begun (of_number (goal.at.refusal_page-requires c).In-Err) in
    (omega arith, s.requires.1, (refuses (goal.at.refusal_page-requires c).In-Err s.requires.0).0)

pub returns-in-Ok-Some : goal.returns-in-Ok-Some
returns-in-Ok-Some c =
    λ l.
    record { page = _; is_page = (adds (goal.at.returns-in-Ok-Some c).In-Ok-Some l).3; wrote = c.put_grant.ensures l }

pub returns-in-Ok-None : goal.returns-in-Ok-None
unfolding none_line bytes
returns-in-Ok-None c =
    λ l.
    let e = rw c.in-Ok-None.field-0-is at c.in-Ok-None.is in
    record { page = none_line; is_page = grant_none c.smallest_grant.ensures (search rules) l e; wrote = c.put_bytes.ensures }

pub returns-in-Err : goal.returns-in-Err
unfolding query_refused bytes
returns-in-Err c =
    λ l.
    record { page = _; is_page = (refuses (goal.at.returns-in-Err c).In-Err l).1; wrote = c.refusal_page.ensures }
