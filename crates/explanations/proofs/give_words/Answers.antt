-- `give_words`: 10, or the words copied and whether the partition settles the query.
use mathlib.Core.Path.{◌≡◌, refl}
use mathlib.Core.List.{List}
use Prim.Native.Nat.{ℕ}
use native.Mathlib.Omega.{arith}
use borrow.Author.Rules.{rules}
use Rattle.word_list.specs.Value.{words_value}
use Rattle.labelling.specs.Settled.{settled}
use Rattle.explain.specs.Explanation.{explained}
use Rattle.label_lists.specs.HoldsLabels.{HoldsLabels}
use Rattle.label_lists.proofs.Asked.{labels_held}
use Rattle.explanations.specs.Explaining.{said_explaining}
use Rattle.explanations.proofs.Explained.{words_count, words_narrow, explains_short, explains_given}
use Rattle.explanations.proofs.give_words.Goals as goal
use Rattle.explanations.proofs.give_words.Goals.{After-words_of-w}

pub words_of-w-requires : goal.words_of-w-requires
words_of-w-requires c = let (ws, h, e) = c.requires in labels_held h

-- the words, whatever labels are held
value : (c : After-words_of-w) (ws : List ℕ) →
    let a = c.args in
    HoldsLabels a.l ws → a.is_settled ≡ settled a.granted ws → c.words_of-w.result ≡ words_value (explained a.granted ws)
value c ws h e = c.words_of-w.ensures ws h.is h.few e

pub returns-then-out-count : goal.returns-then-out-count
returns-then-out-count c = λ ws h e. explains_short _ ws h (value (goal.at.returns-then-out-count c).After-words_of-w ws h e) (omega arith)

pub write_words-requires : goal.write_words-requires
write_words-requires c =
    let (ws, h, e) = c.requires in
    let is = value (goal.at.write_words-requires c).After-words_of-w ws h e in (words_count _ ws h is, search rules, words_narrow _ ws h is)

pub returns : goal.returns
unfolding said_explaining
returns c = λ ws h e.
    explains_given _ ws h (value (goal.at.returns c).After-words_of-w ws h e) _ refl e (omega arith) c.write_words.ensures
