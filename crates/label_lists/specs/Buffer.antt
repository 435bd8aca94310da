-- Document 01, "Labels", of the buffer that is lent to labels and to explaining: "both hold for explaining too".
use Rattle.std.specs.Prelude.{Bool, List, ◌++◌, ℕ, ltb, length, drop}

-- "10: the lent buffer is shorter than the list."
abbrev pub too_short : List ℕ → List ℕ → Bool
too_short buffer ws = ltb (length buffer) (length ws)

-- "Numbers past the list stay"
abbrev pub headed : List ℕ → List ℕ → List ℕ
headed ws buffer = ws ++ drop (length ws) buffer
