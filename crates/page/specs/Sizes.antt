-- How long a page is at most.
use Rattle.std.specs.Prelude.{◌≡◌, ◌⊎◌, List, ℕ, ◌≤◌, length}

-- the room that a page has
abbrev pub most_page : ℕ
most_page = 65536

-- the two spaces before a line, and its end
abbrev pub most_around : ℕ
most_around = 3

-- what is said before a refusal's number: `policy refused ` or `refused `
abbrev pub most_said : ℕ
most_said = 15

-- "Policy text at most 16,384 bytes, query text at most 4,096": the text whose line is shown
abbrev pub most_shown : ℕ
most_shown = 16384

-- a text that is longer is refused at line 0, and shows no line
abbrev pub Shown : List ℕ → ℕ → Type 0
Shown text line = (line ≡ 0) ⊎ (length text ≤ most_shown)
