use mathlib.Core.Path.{◌≡◌, ap, ◌∙◌}
use mathlib.Core.Bool.{not}
use native.Mathlib.Omega.{arith}
use lib.Dec.{eqb}
use Rattle.model.specs.Limits.{most_columns}
use Rattle.model.specs.Rows.{term_at}
use Rattle.model.specs.Value.{line_value}
use Rattle.entering.proofs.HiddenBits.{hidden_bit, bit_hidden, some_hidden}
use Rattle.entering.proofs.LineWords.{columns_more, entered_long, entered_others, line_entered}
use Rattle.entering.proofs.hiding.enter_words.Goals as goal

pub loop-p-preserved : goal.loop-p-preserved
loop-p-preserved c A row few small =
    let bit = c.hidden_bit-bit in
    let at = c.loop-p in
    let read = c.term_at-t.ensures ∙ row.term at.p c.loop-p-test.true in
    let word : bit.result ≡ hidden_bit (term_at (line_value A) at.p) = bit.ensures ∙ ap hidden_bit read in
    rw c.set_bit_if-columns.ensures
    (columns_more (at.invariant A row few small) bit.result (rw word (bit_hidden A few small at.p)) (not (eqb bit.result 0))
    (rw word (some_hidden A few small at.p)))

pub returns : goal.returns
returns c =
    let at = c.loop-p in
    let words = c.args.words.now in
    record {
      long = entered_long words _ at.columns at.hidden at.twice;
      others = entered_others words _ at.columns at.hidden at.twice;
      line = λ A row few small.
          let e : at.p ≡ most_columns = omega arith in
          line_entered words _ at.columns at.hidden at.twice (omega arith) few (rw e at (at.invariant A row few small));
    }
