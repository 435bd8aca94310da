-- "The text is taken through a line reader made of the lent text and the number of the next line": what the reader says of that line.
use Rattle.std.specs.Prelude.{◌≡◌, Bool, true, false, List, [], ◌∷◌, ℕ, ◌+◌}
use Rattle.text.specs.Lines.{newline, lines, before, same_bytes}
use Rattle.text.specs.declared.Cursor.{Cursor}

-- the line behind the next one, which has the number k: it starts behind the byte 10, past the text where that is missing
pub record NextLine (text : List ℕ) (k : ℕ) (c : Cursor) : Type 0 where
  pub place : c.at ≡ before newline text + 1
  pub number : c.line ≡ k + 1

-- "Each block is a line of names": the first of these lines has the bytes of this one
unfoldable pub starts_with : List ℕ → List (List ℕ) → Bool
unfolding same_bytes
starts_with names [] = false
starts_with names (l ∷ ls) = same_bytes l names

-- behind the names line, where the text starts with it; else place 0, that no line ends before
abbrev pub AfterNames : List ℕ → List ℕ → Cursor → Type 0
AfterNames names text c =
    (starts_with names (lines text).ended ≡ true → NextLine text 1 c) × (starts_with names (lines text).ended ≡ false → c.at ≡ 0)
