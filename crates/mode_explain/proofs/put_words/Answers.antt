use Rattle.std.proofs.Common.{◌≡◌, length, refl, ap, ◌∙◌, arith, rules}
use Rattle.std.proofs.Math.Seq.{take_all}
use Rattle.writing.proofs.Wrote.{wrote_as, wrote_none}
use Rattle.mode_explain.specs.ExplainPage.{word_lines}
use Rattle.mode_explain.proofs.WordPieces.{wrote_word}
use Rattle.mode_explain.proofs.put_words.Goals as goal

pub loop-word-init : goal.loop-word-init
unfolding word_lines
loop-word-init c = record { room = omega arith; size = refl; wrote = λ l. wrote_none _ _ }

pub loop-word-preserved : goal.loop-word-preserved
loop-word-preserved c =
    let inv = c.loop-word.invariant in
    let same : length c.put_word-to.new.out ≡ length c.loop-word.out = search rules in
    record {
      room = omega (arith, c.put_word-to.ensures.1);
      size = same ∙ inv.size;
      wrote = λ l. wrote_word l.declared.views _ _ (inv.wrote l) (c.put_word-to.ensures.0 l) c.loop-word-test.true;
    }

pub returns : goal.returns
returns c =
    λ l. wrote_as (ap (word_lines l.declared.views) (take_all _ _ c.loop-word-test.false)) (c.loop-word.invariant.wrote l)
