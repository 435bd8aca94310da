use Rattle.std.proofs.Common.{rules, arith, ◌≡◌, length, take, ap, ◌∙◌}
use mathlib.Core.Bool.{not}
use Rattle.words.proofs.Answers.{failing, passing}
use Rattle.word_list.specs.Value.{words_value}
use Rattle.word_list.proofs.Value.{words_are}
use Rattle.explain.specs.Explanation.{lacking}
use Rattle.grants.proofs.Gathering.{lacking_none, lacking_kept, lacking_more, lacking_all}
use Rattle.grants.proofs.searching.lacking_views.Goals as goal
use Rattle.grants.proofs.searching.lacking_views.Goals.{else-not-meets, then-not-meets}

pub loop-w-init : goal.loop-w-init
loop-w-init c = lacking_none _ _ c.no_words-r.ensures

pub loop-w-preserved : goal.loop-w-preserved
loop-w-preserved c =
    let inv = c.loop-w.invariant in
    let views = c.high_half-views.ensures in
    elim c.if-not-meets.branch [
      | then-not-meets w ↦ lacking_more _ _ c.loop-w-test.true views inv (failing c.meets.ensures (ap not w.if-not-meets.true)) w.push-r.ensures.count_value
          w.push-r.ensures.by_index w.r-is
      | else-not-meets w ↦ lacking_kept _ _ c.loop-w-test.true views inv (passing c.meets.ensures (ap not w.if-not-meets.false)) w.r-is
    ]

pub returns : goal.returns
returns c =
    let labels : length (take c.args.l.count c.args.l.words) ≡ c.args.l.count = search rules in
    record {
      count_le_count = omega (arith, c.loop-w.invariant.few);
      by_index = λ ws e.
          lacking_all _ _ c.loop-w-test.false c.loop-w.invariant ∙ ap (λ (k : _). words_value (lacking c.args.granted k)) (words_are _ ws e);
    }
