use mathlib.Core.Path.{refl}
use native.Mathlib.Omega.{arith}
use Rattle.words.proofs.Bits.{bit_within}
use Rattle.words.proofs.Marks.{left_before}
use Rattle.model.specs.Limits.{most_lines}
use Rattle.reduce.proofs.PairedLines.{paired_none, paired_more, paired_all}
use Rattle.reduce.proofs.pairs.pair_words.Goals as goal

pub loop-rest-init : goal.loop-rest-init
loop-rest-init c = (refl, λ i e. bit_within most_lines i c.requires.2 e, λ Q n g m. paired_none)

pub least-a-requires : goal.least-a-requires
least-a-requires c = omega arith

pub drop_least-rest-requires : goal.drop_least-rest-requires
drop_least-rest-requires c = omega arith

pub pair_row-requires : goal.pair_row-requires
pair_row-requires c =
    let (long, small, _) = c.loop-rest.invariant in
    record {
      lines_len = (c.requires.0, c.requires.1, long);
      a_lt_most_lines = (
        small c.least-a.result c.least-a.ensures.set,
        λ i e. small i (left_before i c.least-a.ensures c.drop_least-rest.ensures e),
      );
    }

pub loop-rest-smaller : goal.loop-rest-smaller
loop-rest-smaller c = c.drop_least-rest.ensures.less

pub loop-rest-preserved : goal.loop-rest-preserved
loop-rest-preserved c =
    let row = c.pair_row in
    let drop = c.drop_least-rest in
    let (_, small, paired) = c.loop-rest.invariant in (
      row.ensures.table_len,
      λ i e. small i (left_before i c.least-a.ensures drop.ensures e),
      λ Q n g m. paired_more (paired Q n g m) c.least-a.ensures drop.ensures (row.ensures.row_paired Q n g m),
    )

pub returns : goal.returns
returns c =
    let (long, small, paired) = rw c.loop-rest-test.false at c.loop-rest.invariant in
    record {
      pairs_tabled = λ Q n g m. paired_all g.laid.lines long m (paired Q n g m);
      result_len = long;
    }
