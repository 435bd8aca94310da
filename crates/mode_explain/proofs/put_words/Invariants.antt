-- `put_words`: the words passed are written.
use Rattle.std.proofs.Common.{◌≡◌, ◌+◌, ◌*◌, ◌≤◌, length, take}
use Rattle.validity.specs.Loadable.{Loadable}
use Rattle.writing.specs.Wrote.{Wrote}
use Rattle.mode_explain.specs.ExplainPage.{most_word, word_lines}
use Rattle.mode_explain.proofs.put_words.Given as goal

abbrev pub invariant-loop-word : goal.invariant-loop-word
invariant-loop-word now = record {
  room : now.to ≤ now.start + now.word-index * most_word;
  size : length now.out ≡ length now.initial.out;
  wrote : (l : Loadable now.p)
      → Wrote now.initial.out now.start (word_lines l.declared.views (take now.word-index now.words)) now.out now.to;
}
