-- `labels_under`: the labels that the desk gives, or its refusal.
use mathlib.Core.Path.{◌≡◌, sym}
use Prim.Native.Nat.{◌≤◌}
use native.Mathlib.Omega.{arith}
use borrow.Author.Rules.{rules}
use lib.ListN.{length, take, length-take}
use lib.Seq.{length-take-le}
use Rattle.text.specs.Names.{bytes}
use Rattle.model.specs.Limits.{most_lines}
use Rattle.validity.specs.Loadable.{Loadable}
use Rattle.writing.proofs.Wrote.{wrote_as}
use Rattle.page.specs.Sizes.{Shown}
use Rattle.page.specs.Refusal.{query_refused}
use Rattle.mode_labels.specs.LabelLines.{label_lines, labels_under}
use Rattle.mode_labels.proofs.Replied.{labels_told, labels_untold}
use Rattle.mode_labels.proofs.labels_under.Goals as goal
use Rattle.mode_labels.proofs.labels_under.Goals.{After-labels, In-Ok, In-Err, Start}

-- ---- the reply, and what it says under any loading of the policy

abbrev begun : After-labels → Start
begun c = (goal.at.After-labels c).Start

abbrev of-count : In-Ok → After-labels
of-count c = (goal.at.In-Ok c).After-labels

abbrev of_number : In-Err → After-labels
of_number c = (goal.at.In-Err c).After-labels

told : (c : In-Ok) →
    let a = of-count c in
    (l : Loadable (begun a).args.p) →
    let n = c.in-Ok.count in
    (n ≤ most_lines) × (n ≤ length a.labels.new.out)
    × (label_lines (take n a.labels.new.out) ≡ labels_under l.declared (begun a).args.query.now)
told c l = labels_told (of-count c).labels.ensures (search rules) l c.in-Ok.is

untold : (c : In-Err) →
    let a = of_number c in
    (l : Loadable (begun a).args.p) →
    Shown (begun a).args.query.now c.in-Err.field-0.line
    × (query_refused (begun a).args.query.now c.in-Err.field-0.number c.in-Err.field-0.line
    ≡ labels_under l.declared (begun a).args.query.now)
untold c l = labels_untold (of_number c).labels.ensures (search rules) l c.in-Err.is

pub slice_bounds-cells-end : goal.slice_bounds-cells-end
slice_bounds-cells-end c = (told (goal.at.slice_bounds-cells-end c).In-Ok (begun (of-count (goal.at.slice_bounds-cells-end c).In-Ok)).requires.0).1

pub slice_bounds-put_labels-end : goal.slice_bounds-put_labels-end
slice_bounds-put_labels-end c = sym (length-take-le _ _ (told (goal.at.slice_bounds-put_labels-end c).In-Ok (begun (of-count (goal.at.slice_bounds-put_labels-end c).In-Ok)).requires.0).1)

pub put_labels-requires : goal.put_labels-requires
put_labels-requires c =
    let t = told (goal.at.put_labels-requires c).In-Ok (begun (of-count (goal.at.put_labels-requires c).In-Ok)).requires.0 in
    (simp length-take (omega (arith, t.0)), (begun (of-count (goal.at.put_labels-requires c).In-Ok)).requires.1)

pub refusal_page-requires : goal.refusal_page-requires
refusal_page-requires c =
    (omega arith, (begun (of_number (goal.at.refusal_page-requires c).In-Err)).requires.1, (untold (goal.at.refusal_page-requires c).In-Err (begun (of_number (goal.at.refusal_page-requires c).In-Err)).requires.0).0)

pub returns-in-Ok : goal.returns-in-Ok
returns-in-Ok c =
    λ l.
    wrote_as (told (goal.at.returns-in-Ok c).In-Ok l).2 c.put_labels.ensures

pub returns-in-Err : goal.returns-in-Err
unfolding query_refused bytes
returns-in-Err c =
    λ l.
    wrote_as (untold (goal.at.returns-in-Err c).In-Err l).1 c.refusal_page.ensures
