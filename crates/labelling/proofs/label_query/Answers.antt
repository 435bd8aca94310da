-- `label_query`: the rows of the query are labelled.
use borrow.Author.Rules.{rules}
use Rattle.labelling.proofs.Posing.{posed_few, posed_rows}
use Rattle.labelling.proofs.label_query.Goals as goal

pub query_rows-lines-requires : goal.query_rows-lines-requires
query_rows-lines-requires c = posed_few c.requires.4

pub label_rows-requires : goal.label_rows-requires
label_rows-requires c =
    let (d, t, Q, ready, g) = c.requires in
    ((d, t, Q, ready, posed_rows g (c.query_rows-lines.ensures Q g.query)), search rules)

pub returns : goal.returns
returns c = λ d t Q ready g.
    c.label_rows.ensures.posed_rows_given d t Q ready (posed_rows g (c.query_rows-lines.ensures Q g.query))
