-- `translate_parts`: what was read of the head and of the body tells what turns the rule back, and else the lines that are printed.
use mathlib.Core.Path.{refl}
use Rattle.numbering.specs.Names.{held}
use Rattle.rule_body.specs.Head.{HeadRead}
use Rattle.import.proofs.Faults.{no_rule, no_head, parts_refused, parts_written}
use Rattle.import.proofs.Lines.{lines_named}
use Rattle.import.proofs.translating.translate_parts.Goals as goal
use Rattle.import.proofs.translating.translate_parts.Goals.{In-Some-read_head}

pub returns-in_default-clause-parts_translated : goal.returns-in_default-clause-parts_translated
returns-in_default-clause-parts_translated c w t n = rw (no_rule _ _ c.in_default.ensures) refl

pub returns-in_default-read_head-clause-parts_translated : goal.returns-in_default-read_head-clause-parts_translated
returns-in_default-read_head-clause-parts_translated c w t n = rw (no_head _ _ c.in_default-read_head.ensures) refl

-- the head beside the keys of the body's names
head : (c : In-Some-read_head) → HeadRead c.args.head.now (held c.names_of-names.result) c.in-Some-read_head.h
head c = rw c.keys.ensures at c.in-Some-read_head.ensures

pub returns-in-Some-first_fault-clause-parts_translated : goal.returns-in-Some-first_fault-clause-parts_translated
returns-in-Some-first_fault-clause-parts_translated c w t n =
    let e = goal.at.returns-in-Some-first_fault-clause-parts_translated c in
    parts_refused w n c.args.tables t c.args.head.now c.args.body.now c.in-Some.b c.in-Some.ensures.0 c.names_of-names.result
    c.names_of-names.ensures c.in-Some-read_head.h (head e.In-Some-read_head) _ _ c.in-Some-first_fault.ensures

pub put_query-requires : goal.put_query-requires
put_query-requires c =
    rw c.keys-2.ensures (lines_named _ _ c.in-Some.ensures.1 c.names_of-names.ensures, c.requires.1)

pub returns : goal.returns
returns c =
    let e = goal.at.returns c in
    record {
      parts_translated = λ w t n.
          parts_written w n c.args.tables t c.args.head.now c.args.body.now c.in-Some.b c.in-Some.ensures.0 c.names_of-names.result
          c.names_of-names.ensures c.in-Some-read_head.h (head e.In-Some-read_head) _ _ c.in_default-first_fault.ensures
          (rw c.keys-2.ensures at c.put_query.ensures.query_put.0);
      out_len = (c.put_query.ensures.out_len, c.put_query.ensures.query_put.1);
    }
