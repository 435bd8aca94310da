use Prim.Native.Nat.{◌≤◌}
use native.Mathlib.Omega.{arith}
use Rattle.text.specs.Names.{bytes, table_terms}
use Rattle.writing.proofs.Wrote.{wrote_byte}
use Rattle.import.specs.Translating.{text_room}
use Rattle.import.proofs.Lines.{none_printed, lines_few, line_placed, more_printed, all_printed}
use Rattle.import.proofs.translating.put_query.Goals as goal

pub loop-line-init : goal.loop-line-init
unfolding table_terms bytes
loop-line-init c = (
  none_printed _ _ _ c.put_bytes-names.ensures
      (wrote_byte (omega (arith, c.put_bytes-names.ensures.next, c.put_bytes-names.ensures.size, c.requires.1)) c.put_byte-at.ensures),
  omega (arith, c.requires.1),
)

pub number_line-numbered-requires : goal.number_line-numbered-requires
number_line-numbered-requires c = line_placed c.requires.0 c.loop-line-test.true _

pub loop-line-preserved : goal.loop-line-preserved
loop-line-preserved c = (
  more_printed c.args.q c.args.keys.now c.args.shown _ c.loop-line.invariant.0 c.loop-line-test.true c.put_line-at.ensures.1
      c.number_line-numbered.ensures c.put_line-at.ensures.0,
  omega (arith, c.loop-line.invariant.1),
)

pub returns : goal.returns
returns c =
    let inv = c.loop-line.invariant in
    let few : c.loop-line.at ≤ text_room = omega (arith, inv.0.most, c.loop-line.auto.line-index-end, lines_few c.args.q c.requires.0.few) in
    record {
      query_put = (all_printed c.args.q c.args.keys.now c.args.shown inv.0 c.loop-line-test.false (omega (arith, few, inv.1)), few);
      out_len = inv.1;
    }
