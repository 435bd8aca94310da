-- `decide_next`: the query that the pass gives, or the text up to the first cut.
use mathlib.Core.Path.{sym, subst}
use mathlib.Core.List.{List}
use Prim.Native.Nat.{ℕ}
use native.Mathlib.Omega.{arith}
use Rattle.policy_text.specs.Declared.{Declared}
use Rattle.labelling.specs.Posed.{Ready}
use Rattle.scan.specs.Scanned.{Widths, Scanned}
use Rattle.run.proofs.Scans.{ready_widths, scanned_rows}
use Rattle.run.proofs.next.decide_next.Goals as goal
use Rattle.run.proofs.next.decide_next.Goals.{After-widths, In-Some}

-- the columns of the tables are lent
lent : (c : After-widths) {d : Declared}
    → Ready d c.args.tables c.args.ready.now → Widths c.widths.result.now d.widths
lent c {d} ready = subst (λ (l : List ℕ). Widths l d.widths) (sym c.widths.ensures) (ready_widths ready)

pub first_query-requires : goal.first_query-requires
first_query-requires c =
    let ((d, ready), some, short, long) = c.requires in
    ((d.widths, lent (goal.at.first_query-requires c).After-widths ready), omega (arith, short), long)

-- what the pass says where it gives a query
found : (c : In-Some) {d : Declared}
    → Ready d c.args.tables c.args.ready.now
    → Scanned d.widths c.args.input.now c.in-Some.p c.first_query.new.rows
found c {d} ready = c.in-Some.ensures.scanned_under d.widths (lent (goal.at.In-Some c).After-widths ready)

pub decide_rows-decision-requires : goal.decide_rows-decision-requires
decide_rows-decision-requires c =
    let ((d, ready), _, _, _) = c.requires in
    let s = found (goal.at.decide_rows-decision-requires c).In-Some ready in
    ((d, _, s.query, ready, scanned_rows ready s), c.first_query.ensures.rows_len)

pub returns-clause-next_decided : goal.returns-clause-next_decided
returns-clause-next_decided c =
    let ((_, some), _, _, _) = c.requires in
    record {
      cuts = (found (goal.at.returns-clause-next_decided c).In-Some some).cuts;
      gives = λ d ready.
          let s = found (goal.at.returns-clause-next_decided c).In-Some ready in
          c.decide_rows-decision.ensures.rows_decided d _ s.query _ ready (scanned_rows ready s) s.reads;
    }
