-- `tell_apart`: 8, 4, what the text is turned back for, 10, or what `tell_rows` does with its query.
use mathlib.Core.Path.{◌≡◌}
use mathlib.Core.Bool.{true}
use borrow.Author.Rules.{rules}
use Rattle.std.specs.Prelude.{Err}
use Rattle.theory.specs.Query.{Query}
use Rattle.words.proofs.Answers.{passes, fails, passing, failing}
use Rattle.model.specs.Limits.{up_to}
use Rattle.query_text.specs.Text.{read, accepted}
use Rattle.validity.specs.Loadable.{Loadable}
use Rattle.labelling.specs.Posed.{Posed}
use Rattle.labelling.proofs.Readings.{read_accepted, read_refused}
use Rattle.labelling.proofs.Posing.{counted, tables_of, posed, posed_few, posed_rows}
use Rattle.labelling.proofs.Loaded.{loaded_to}
use Rattle.explanations.proofs.Explained.{partition_place}
use Rattle.apart.proofs.Replies.{not_loaded, no_partition, text_turned, too_short, asked, told}
use mathlib.Core.Path.{ap}
use mathlib.Core.Bool.{not}
use Rattle.apart.proofs.telling.tell_apart.Goals as goal
use Rattle.apart.proofs.telling.tell_apart.Goals.{Else-not-is_among, In_ok-q}

pub returns-then-not-valid : goal.returns-then-not-valid
returns-then-not-valid c = not_loaded _ _ _ (fails c.valid.ensures (ap not c.if-not-valid.true))

pub returns-then-not-is_among : goal.returns-then-not-is_among
returns-then-not-is_among c =
    let valid = passes c.valid.ensures (ap not c.if-not-valid.false) in
    no_partition _ _ _ valid (failing c.is_among.ensures (ap not c.if-not-is_among.true))

-- the policy is loadable, and the partition one of its own
is_loadable : (c : Else-not-is_among) → Loadable c.args.p
is_loadable c = passes c.valid.ensures (ap not c.if-not-valid.false)

among : (c : Else-not-is_among) →
    let a = c.args in
    up_to a.p.partition_count a.n ≡ true
among c = passing c.is_among.ensures (ap not c.if-not-is_among.false)

-- the query that the text reads to
posed_query : (c : In_ok-q) →
    (l : Loadable c.args.p) →
    let d = l.declared in
    (Q : Query) × (read d.widths c.args.text.now ≡ accepted Q) × Posed c.in_ok-q.q d Q
posed_query c l =
    let d = l.declared in
    let (Q, e, q) = read_accepted (read d.widths _) _ (c.read_query.ensures d.widths (tables_of (loaded_to l))) _ c.in_ok-q.was in
    (Q, e, posed d _ Q (loaded_to l).good e q)

pub returns-then-out-lt-MOST_CELLS : goal.returns-then-out-lt-MOST_CELLS
returns-then-out-lt-MOST_CELLS c =
    too_short _ _ _ (is_loadable (goal.at.returns-then-out-lt-MOST_CELLS c).Else-not-is_among) (among (goal.at.returns-then-out-lt-MOST_CELLS c).Else-not-is_among) (λ l. let (Q, q, g) = posed_query (goal.at.returns-then-out-lt-MOST_CELLS c).In_ok-q l in (Q, q)) c.if-out-lt-MOST_CELLS.true

pub prepare-ready-requires : goal.prepare-ready-requires
prepare-ready-requires c = counted (loaded_to (is_loadable (goal.at.prepare-ready-requires c).Else-not-is_among))

pub query_rows-lines-requires : goal.query_rows-lines-requires
query_rows-lines-requires c =
    posed_few (posed_query (goal.at.query_rows-lines-requires c).In_ok-q (is_loadable (goal.at.query_rows-lines-requires c).Else-not-is_among)).2

pub overflow_sub-n : goal.overflow_sub-n
overflow_sub-n c =
    (partition_place (is_loadable (goal.at.overflow_sub-n c).Else-not-is_among) _ (among (goal.at.overflow_sub-n c).Else-not-is_among)).0

pub tell_rows-requires : goal.tell_rows-requires
tell_rows-requires c =
    let l = is_loadable (goal.at.tell_rows-requires c).Else-not-is_among in
    let (Q, reads, g) = posed_query (goal.at.tell_rows-requires c).In_ok-q l in
    let a = asked _ (among (goal.at.tell_rows-requires c).Else-not-is_among) c.prepare-ready.ensures l _ Q reads (posed_rows g (c.query_rows-lines.ensures Q g.query)) in
    ((_, _, _, _, a), search rules, record { room = c.if-out-lt-MOST_CELLS.false })

pub returns : goal.returns
returns c =
    told _ _ _ (is_loadable (goal.at.returns c).Else-not-is_among) (among (goal.at.returns c).Else-not-is_among) c.prepare-ready.ensures c.if-out-lt-MOST_CELLS.false
    (λ l. let (Q, reads, g) = posed_query (goal.at.returns c).In_ok-q l in (Q, reads, posed_rows g (c.query_rows-lines.ensures Q g.query)))
    c.tell_rows.ensures

pub returns-in_err-q : goal.returns-in_err-q
returns-in_err-q c =
    let e : c.from_residual.result ≡ Err c.in_err-q.field-0.0 = search rules in
    rw e (text_turned _ _ _ (is_loadable (goal.at.returns-in_err-q c).Else-not-is_among) (among (goal.at.returns-in_err-q c).Else-not-is_among) _ _ (λ l.
    read_refused (read l.declared.widths _) _
    (c.read_query.ensures l.declared.widths (tables_of (loaded_to l))) _ c.in_err-q.was))
