use mathlib.Core.Path.{◌∙◌}
use Prim.Native.Nat.{◌<◌}
use native.Mathlib.Omega.{arith}
use Rattle.words.proofs.Bits.{bit_within}
use Rattle.words.proofs.Marks.{left_before}
use Rattle.model.specs.Limits.{most_lines}
use Rattle.reduce.specs.Links.{LineBits}
use Rattle.reduce.proofs.PairedLines.{row_none, row_more, row_all}
use Rattle.reduce.proofs.pairs.pair_row.Goals as goal
use Rattle.reduce.proofs.pairs.pair_row.Goals.{After-least-b, After-row_of-row}

pub row_of-row-requires : goal.row_of-row-requires
row_of-row-requires c = (omega arith, omega arith)

-- the targets are lines
targets : (c : After-row_of-row) → LineBits c.row_of-row.result
targets c i e = bit_within most_lines i (omega arith) (c.row_of-row.ensures.some i e).0

pub loop-rest-init : goal.loop-rest-init
loop-rest-init c = (c.requires.lines_len.2, λ i e. e, λ Q n g k. row_none)

pub least-b-requires : goal.least-b-requires
least-b-requires c = omega arith

-- a later line is a line
small : (c : After-least-b) → c.least-b.result < most_lines
small c =
    c.requires.a_lt_most_lines.1 _ (c.loop-rest.invariant.1 _ c.least-b.ensures.set)

pub hidden_of-requires : goal.hidden_of-requires
hidden_of-requires c = (omega arith, omega arith)

pub hidden_of-requires-in-loop-rest : goal.hidden_of-requires-in-loop-rest
hidden_of-requires-in-loop-rest c = (omega arith, small (goal.at.hidden_of-requires-in-loop-rest c).After-least-b)

pub link_word-w-requires : goal.link_word-w-requires
link_word-w-requires c =
    (omega arith, omega arith, small (goal.at.link_word-w-requires c).After-least-b, targets (goal.at.link_word-w-requires c).After-row_of-row)

pub put_links-requires : goal.put_links-requires
put_links-requires c =
    (c.loop-rest.invariant.0, omega arith, small (goal.at.put_links-requires c).After-least-b, targets (goal.at.put_links-requires c).After-row_of-row)

pub drop_least-rest-requires : goal.drop_least-rest-requires
drop_least-rest-requires c = omega arith

pub loop-rest-smaller : goal.loop-rest-smaller
loop-rest-smaller c = c.drop_least-rest.ensures.less

pub loop-rest-preserved : goal.loop-rest-preserved
loop-rest-preserved c =
    let put = c.put_links in
    let second = c.hidden_of-in-loop-rest in
    let first = c.hidden_of in
    let (long, some, row) = c.loop-rest.invariant in
    let word = rw (first.ensures, second.ensures) at c.link_word-w.ensures in (
      put.ensures.long ∙ long,
      λ i e. some i (left_before i c.least-b.ensures c.drop_least-rest.ensures e),
      λ Q n g m.
          row_more g m _ c.least-b.result _ _ c.row_of-row.ensures word
          (row Q n g m) c.least-b.ensures c.drop_least-rest.ensures some put.ensures,
    )

pub shape_of-table : goal.shape_of-table
shape_of-table c = omega (arith, c.loop-rest.invariant.0)

pub returns : goal.returns
returns c = let (long, some, row) = rw c.loop-rest-test.false at c.loop-rest.invariant in
    record {
      row_paired = λ Q n g m. row_all (row Q n g m);
      table_len = long;
    }
