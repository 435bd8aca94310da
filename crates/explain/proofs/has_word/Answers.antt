-- `has_word`: the word is searched among those that are counted.
use mathlib.Core.Path.{ap, ◌∙◌}
use lib.Dec.{eqb}
use Rattle.theory.specs.Executable.Test.{any}
use Rattle.word_list.proofs.Value.{words_are}
use Rattle.explain.proofs.Search.{any_is, eqb_swap}
use Rattle.explain.proofs.has_word.Goals as goal

pub returns : goal.returns
returns c = λ l e.
    let x = c.args.x in
    c.contains.ensures.value ∙ any_is _ (eqb x) (λ y. eqb_swap y x) _ ∙ ap (any (eqb x)) (words_are _ l e)
