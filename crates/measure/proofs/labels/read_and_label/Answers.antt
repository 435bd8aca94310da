-- `read_and_label`: the query that is labelled is one that reading accepted under the policy's tables.
use Rattle.query_text.specs.Text.{read as read_text}
use Rattle.labelling.proofs.Posing.{tables_of, counted, ready, posed}
use Rattle.labelling.proofs.Readings.{read_accepted}
use Rattle.measure.proofs.labels.read_and_label.Goals as goal

pub prepare_for_many-ready-requires : goal.prepare_for_many-ready-requires
prepare_for_many-ready-requires c = let (d, l) = c.requires in counted l

pub label_again-requires : goal.label_again-requires
label_again-requires c =
    let (d, l) = c.requires in
    let (Q, e, q) = read_accepted (read_text d.widths _) _ (c.read_query.ensures d.widths (tables_of l)) _ c.in-Ok.is in
    (d, _, Q, ready l c.prepare_for_many-ready.ensures, posed d _ Q l.good e q)
