-- `explain_under`: the explanation that the desk gives, or its refusal.
use mathlib.Core.Path.{◌≡◌, sym}
use Prim.Native.Nat.{◌≤◌}
use native.Mathlib.Omega.{arith}
use borrow.Author.Rules.{rules}
use lib.ListN.{length, take, length-take}
use lib.Seq.{length-take-le}
use Rattle.text.specs.Names.{bytes}
use Rattle.model.specs.Limits.{most_lines}
use Rattle.validity.specs.Loadable.{Loadable}
use Rattle.writing.proofs.Wrote.{wrote_as}
use Rattle.page.specs.Sizes.{Shown}
use Rattle.page.specs.Refusal.{query_refused}
use Rattle.mode_explain.specs.ExplainPage.{explanation, explain_under}
use Rattle.mode_explain.proofs.Replied.{told, not_told}
use Rattle.mode_explain.proofs.explain_under.Goals as goal
use Rattle.mode_explain.proofs.explain_under.Goals.{After-explain, In-Err, In-Ok, Start}

-- ---- the reply, and what it says under any loading of the policy

abbrev begun : After-explain → Start
begun c = (goal.at.After-explain c).Start

abbrev explained : In-Ok → After-explain
explained c = (goal.at.In-Ok c).After-explain

abbrev of_number : In-Err → After-explain
of_number c = (goal.at.In-Err c).After-explain

tells : (c : In-Ok) →
    let a = explained c in
    let s = begun a in
    (l : Loadable s.args.p) →
    let k = c.in-Ok.e.count in
    (k ≤ most_lines) × (k ≤ length a.explain.new.out)
    × (explanation l.declared.views c.in-Ok.e.is_settled (take k a.explain.new.out) ≡ explain_under l.declared s.args.n s.args.query.now)
tells c l = told (explained c).explain.ensures (search rules) l c.in-Ok.is

refuses : (c : In-Err) →
    let s = begun (of_number c) in
    (l : Loadable s.args.p) →
    Shown s.args.query.now c.in-Err.field-0.line
    × (query_refused s.args.query.now c.in-Err.field-0.number c.in-Err.field-0.line
    ≡ explain_under l.declared s.args.n s.args.query.now)
refuses c l = not_told (of_number c).explain.ensures (search rules) l c.in-Err.is

pub slice_bounds-cells-end : goal.slice_bounds-cells-end
slice_bounds-cells-end c = (tells (goal.at.slice_bounds-cells-end c).In-Ok (begun (explained (goal.at.slice_bounds-cells-end c).In-Ok)).requires.0).1

pub slice_bounds-put_explanation-end : goal.slice_bounds-put_explanation-end
slice_bounds-put_explanation-end c = sym (length-take-le _ _ (tells (goal.at.slice_bounds-put_explanation-end c).In-Ok (begun (explained (goal.at.slice_bounds-put_explanation-end c).In-Ok)).requires.0).1)

pub put_explanation-requires : goal.put_explanation-requires
put_explanation-requires c =
    let s = begun (explained (goal.at.put_explanation-requires c).In-Ok) in
    let t = tells (goal.at.put_explanation-requires c).In-Ok s.requires.0 in
    (simp length-take (omega (arith, t.0)), s.requires.1, s.requires.0)

pub refusal_page-requires : goal.refusal_page-requires
refusal_page-requires c =
    let s = begun (of_number (goal.at.refusal_page-requires c).In-Err) in
    (omega arith, s.requires.1, (refuses (goal.at.refusal_page-requires c).In-Err s.requires.0).0)

pub returns-in-Ok : goal.returns-in-Ok
returns-in-Ok c =
    λ l. wrote_as (tells (goal.at.returns-in-Ok c).In-Ok l).2 (c.put_explanation.ensures l)

pub returns-in-Err : goal.returns-in-Err
unfolding query_refused bytes
returns-in-Err c =
    λ l. wrote_as (refuses (goal.at.returns-in-Err c).In-Err l).1 c.refusal_page.ensures
