-- Document 01, "The program and its first file": how standard input is cut into query texts.
use Rattle.std.specs.Prelude.{cond, List, [], ◌∷◌, ◌++◌, ℕ}
use Rattle.text.specs.Lines.{newline, lines, same_bytes}
use Rattle.text.specs.Names.{table_terms}

-- a text of some bytes is a query of its own; no bytes are none
unfoldable pub piece : List ℕ → List (List ℕ)
piece [] = []
piece (b ∷ l) = (b ∷ l) ∷ []

-- the complete lines behind the bytes `now` of a query begun, and the tail of the input: "each `table terms` line starts a new
-- query, a last line without byte 10 does not"
unfoldable pub cut_from : List ℕ → List (List ℕ) → List ℕ → List (List ℕ)
unfolding piece same_bytes table_terms
cut_from now [] tail = piece (now ++ tail)
cut_from now (l ∷ ls) tail =
    cond (same_bytes l table_terms) (piece now ++ cut_from (l ++ newline ∷ []) ls tail) (cut_from (now ++ l ++ newline ∷ []) ls tail)

-- "bytes before the first such line are a query of their own"
unfoldable pub cut : List ℕ → List (List ℕ)
unfolding cut_from lines
cut input = let s = lines input in cut_from [] s.ended s.rest
