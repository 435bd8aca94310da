-- `valid`: tables, views and grants, each right beside those before it, are the parts of a loadable value.
use mathlib.Core.Logic.Iff
use Rattle.words.proofs.Answers.{no_iff, passes, fails}
use Rattle.validity.proofs.Views.{tables_few, views_checked}
use Rattle.validity.proofs.Loadable.{loadable_parts, parts_loadable}
use mathlib.Core.Path.{ap}
use mathlib.Core.Bool.{not}
use Rattle.validity.proofs.valid.Goals as goal

pub returns-then-not-valid_tables : goal.returns-then-not-valid_tables
returns-then-not-valid_tables c =
    no_iff (λ l.
    let h = loadable_parts c.args.p l in
    fails c.valid_tables.ensures (ap not c.if-not-valid_tables.true) (h.widths, h.tables))

pub valid_views-requires : goal.valid_views-requires
valid_views-requires c =
    let t = passes c.valid_tables.ensures (ap not c.if-not-valid_tables.false) in tables_few t.0 _ t.1

pub returns-then-not-valid_views : goal.returns-then-not-valid_views
returns-then-not-valid_views c =
    no_iff (λ l.
    let h = loadable_parts c.args.p l in
    fails (c.valid_views.ensures h.widths h.tables) (ap not c.if-not-valid_views.true) h.views)

pub valid_grants-requires : goal.valid_grants-requires
valid_grants-requires c =
    let views = c in
    let tables = views in
    let t = passes tables.valid_tables.ensures (ap not tables.if-not-valid_tables.false) in
    (views_checked t.0 _ _ (passes (views.valid_views.ensures t.0 t.1) (ap not views.if-not-valid_views.false))).counted.1

pub returns : goal.returns
returns c =
    let views = c in
    let tables = views in
    let p = tables.args.p in
    let t = passes tables.valid_tables.ensures (ap not tables.if-not-valid_tables.false) in
    let v = passes (views.valid_views.ensures t.0 t.1) (ap not views.if-not-valid_views.false) in
    Iff.trans c.valid_grants.ensures (
      λ h. parts_loadable p (record { widths = t.0; tables = t.1; views = v; partitions = h }),
      λ l. (loadable_parts p l).partitions,
    )
