-- A list of words, as the code holds it.
use Rattle.std.specs.Prelude.{List, ℕ, length}
use Rattle.model.specs.Limits.{most_lines}
use Rattle.model.specs.Value.{pad}
use Rattle.word_list.specs.declared.Words.{Words}

-- unused words are 0
unfoldable pub words_value : List ℕ → Words
unfolding pad
words_value ws = record { count = length ws; words = pad most_lines 0 ws }
