-- Document 01, "Each output line: the query's number from 1; `yes`, `no` or `refused`; the open count left in the session;
-- refusal number; its line."
use Rattle.std.specs.Prelude.{List, [], ◌∷◌, ◌++◌, ℕ}
use Rattle.text.specs.Names.{bytes}
use Rattle.text.specs.Lines.{space, newline}
use Rattle.text.specs.Print.{decimal}
use Rattle.sessions.specs.Reply.{Word, yes, no, refused}

unfoldable pub output_names : List ℕ
unfolding bytes
output_names = bytes "query answer open refusal line"

unfoldable pub word_bytes : Word → List ℕ
unfolding bytes
word_bytes yes = bytes "yes"
word_bytes no = bytes "no"
word_bytes refused = bytes "refused"

unfoldable pub output_line : ℕ → Word → ℕ → ℕ → ℕ → List ℕ
unfolding decimal word_bytes
output_line query answer left number line =
    decimal query ++ space ∷ word_bytes answer ++ space ∷ decimal left ++ space ∷ decimal number ++ space ∷ decimal line ++ newline ∷ []
