use mathlib.Core.Path.{◌∙◌}
use native.Mathlib.Omega.{arith}
use Rattle.entering.proofs.LineWords.{words_more}
use Rattle.entering.proofs.hiding.enter_query.Goals as goal

pub loop-i-preserved : goal.loop-i-preserved
loop-i-preserved c =
    let at = c.loop-i in
    let line = c.enter_words.ensures in (
      line.long ∙ at.invariant.0,
      λ Q e laid small. words_more at.i laid small (omega (arith, e, c.loop-i-test.true)) (at.invariant.1 Q e laid small) line,
    )

pub returns : goal.returns
returns c =
    let at = c.loop-i in
    record {
      worded = λ Q e laid small. record { long = at.invariant.0; line = λ j h. at.invariant.1 Q e laid small j (omega (arith, e)) };
      words_len = at.invariant.0;
    }
