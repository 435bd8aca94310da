-- `decide_loaded`: 9, what the text is turned back for, or what `answer_rows` says of its query.
use mathlib.Core.Path.{◌≡◌, sym, subst, ◌∙◌}
use borrow.Author.Rules.{rules}
use Rattle.theory.specs.Query.{Query}
use Rattle.query_text.specs.Text.{read, accepted}
use Rattle.policy_text.specs.Declared.{Declared}
use Rattle.labelling.specs.Posed.{Ready, Posed}
use Rattle.labelling.proofs.Readings.{read_accepted, read_refused}
use Rattle.labelling.proofs.Posing.{posed, posed_few, posed_rows}
use Rattle.sessions.specs.Deciding.{Gives}
use Rattle.decisions.proofs.Decides.{unfit_is, under_unfit, under_refused, under_accepted}
use Rattle.decisions.proofs.decide_loaded.Goals as goal
use Rattle.decisions.proofs.decide_loaded.Goals.{In-Ok}

pub returns-then-unfit : goal.returns-then-unfit
returns-then-unfit c = λ d ready.
    let every = c.every_partition-every.ensures in
    let unfit = sym (unfit_is ready every _ c.unfit.ensures) ∙ c.if-unfit.true in
    subst (Gives _) (sym (under_unfit d _ _ unfit)) c.refused.ensures

-- the query that the text reads to
posed_query : (c : In-Ok) {d : Declared}
    → Ready d c.args.tables c.args.ready.now → (Q : Query) × (read d.widths c.args.text.now ≡ accepted Q) × Posed c.in-Ok.q d Q
posed_query c {d} ready =
    let (Q, e, q) = read_accepted (read d.widths _) _ (c.read_query.ensures d.widths ready.tables_are) _ c.in-Ok.is in
    (Q, e, posed d _ Q ready.good e q)

pub query_rows-lines-requires : goal.query_rows-lines-requires
query_rows-lines-requires c =
    let (d, ready) = c.requires in posed_few (posed_query (goal.at.query_rows-lines-requires c).In-Ok ready).2

pub answer_rows-requires : goal.answer_rows-requires
answer_rows-requires c =
    let (d, ready) = c.requires in
    let (Q, e, g) = posed_query (goal.at.answer_rows-requires c).In-Ok ready in
    ((d, _, Q, ready, posed_rows g (c.query_rows-lines.ensures Q g.query)), search rules)

pub returns-in-Err : goal.returns-in-Err
returns-in-Err c = λ d ready.
    let fit = sym (unfit_is ready c.every_partition-every.ensures _ c.unfit.ensures) ∙ c.if-unfit.false in
    let e = read_refused (read d.widths _) _ (c.read_query.ensures d.widths ready.tables_are) _ c.in-Err.is in
    subst (Gives _) (sym (under_refused d _ _ _ _ fit e)) c.refused-in-Err.ensures

pub returns-in-Ok : goal.returns-in-Ok
returns-in-Ok c = λ d ready.
    let fit = sym (unfit_is ready c.every_partition-every.ensures _ c.unfit.ensures) ∙ c.if-unfit.false in
    let (Q, e, g) = posed_query (goal.at.returns-in-Ok c).In-Ok ready in
    subst (Gives _) (sym (under_accepted d _ _ Q fit e))
    (c.answer_rows.ensures.rows_answered d _ Q ready (posed_rows g (c.query_rows-lines.ensures Q g.query)))
