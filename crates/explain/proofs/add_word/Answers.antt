-- `add_word`: the word is pushed unless `has_word` finds it.
use borrow.Author.Rules.{rules}
use Rattle.explain.proofs.add_word.Goals as goal

pub returns-then-has_word : goal.returns-then-has_word
returns-then-has_word c =
    record {
      count_bound = search rules;
      by_index = λ l e. rw (← c.has_word.ensures l e, c.if-has_word.true) e;
    }

pub returns : goal.returns
returns c =
    record {
      count_bound = search rules;
      by_index = λ l e. rw (← c.has_word.ensures l e, c.if-has_word.false) (c.push.ensures.by_index l e);
    }
