-- `label_text`: a text that is read is labelled, and one that is turned back stays so.
use mathlib.Core.Path.{ap, sym, ◌∙◌}
use borrow.Author.Rules.{rules}
use Rattle.std.specs.Prelude.{Ok}
use Rattle.query_text.specs.Text.{read}
use Rattle.labelling.specs.Text.{asked_value}
use Rattle.labelling.proofs.Posing.{posed}
use Rattle.labelling.proofs.Readings.{read_accepted, read_refused}
use Rattle.labelling.proofs.label_text.Goals as goal

pub label_query-requires : goal.label_query-requires
label_query-requires c =
    let (d, ready) = c.requires in
    let (Q, e, q) = read_accepted (read d.widths _) _ (c.read_query.ensures d.widths ready.tables_are) _ c.in_ok-q.was in
    (d, _, Q, ready, posed d _ Q ready.good e q)

pub returns-in_err-q : goal.returns-in_err-q
unfolding asked_value
returns-in_err-q c = λ d ready.
    let e = read_refused (read d.widths _) _ (c.read_query.ensures d.widths ready.tables_are) _ c.in_err-q.was in
    rw e (search rules)

pub returns : goal.returns
unfolding asked_value
returns c = λ d ready.
    let (Q, e, q) = read_accepted (read d.widths _) _ (c.read_query.ensures d.widths ready.tables_are) _ c.in_ok-q.was in
    ap Ok (c.label_query.ensures d _ Q ready (posed d _ Q ready.good e q)) ∙ ap (asked_value d) (sym e)
