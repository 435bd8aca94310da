-- What is written to a buffer: a line, the line of a reply, and the lines of all queries.
use Rattle.std.specs.Prelude.{◌≡◌, List, ℕ}
use Rattle.model.specs.declared.Tables.{Tables}
use Rattle.policy_text.specs.Declared.{Declared}
use Rattle.labelling.specs.Posed.{Ready}
use Rattle.sessions.specs.Reply.{Word, said}
use Rattle.sessions.specs.declared.opening.Session.{Session}
use Rattle.sessions.specs.declared.replies.Reply.{Reply}
use Rattle.writing.specs.Wrote.{Wrote}
use Rattle.cutting.specs.Cut.{cut}
use Rattle.run.specs.Output.{word_bytes, output_line}
use Rattle.run.specs.Run.{lines_from}

-- a line with the bytes of a word
abbrev pub LineWritten : ℕ → List ℕ → ℕ → ℕ → ℕ → List ℕ → ℕ → List ℕ → ℕ → Type 0
LineWritten query word left number line was at is to =
    (w : Word) → word ≡ word_bytes w → Wrote was at (output_line query w left number line) is to

-- the line of a reply that left so many partitions open
abbrev pub ReplyWritten : ℕ → Reply → ℕ → List ℕ → ℕ → List ℕ → ℕ → Type 0
ReplyWritten query reply left was at is to =
    Wrote was at (output_line query (said reply).word left (said reply).number (said reply).line) is to

-- the lines of all queries, under what the policy declares
abbrev pub AllWritten : Tables → List ℕ → Session → List ℕ → List ℕ → ℕ → List ℕ → ℕ → Type 0
AllWritten tables ready opened queries was at is to =
    (d : Declared) → Ready d tables ready → Wrote was at (lines_from d opened 1 (cut queries)) is to
