-- `words_of`: the words of the case that is handed in, in ascending order.
use mathlib.Core.Path.{sym, ◌∙◌}
use Rattle.word_list.proofs.Sorted.{ascending_reverse}
use Rattle.explain.specs.Explanation.{explained}
use Rattle.explain.proofs.words_of.Goals as goal

pub returns-then-is_settled : goal.returns-then-is_settled
unfolding explained
returns-then-is_settled c = λ ws e few s.
    rw (sym s ∙ c.if-is_settled.true)
    (rw ascending_reverse at (c.ascending.ensures.by_index _ (c.granted_words.ensures.by_index ws e)))

pub returns : goal.returns
unfolding explained
returns c = λ ws e few s.
    rw (sym s ∙ c.if-is_settled.false)
    (rw ascending_reverse at (c.ascending-2.ensures.by_index _ (c.lacking_words.ensures.by_index ws e)))
