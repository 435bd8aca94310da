-- Lines and fields. A text is a list of bytes.
use Rattle.std.specs.Prelude.{◌≡◌, Bool, true, false, cond, ◌&&◌, List, [], ◌∷◌, ◌++◌, ℕ, suc, ◌<◌, eqb, leb, length, get_or, drop}

-- "each line ended by byte 10 (decimal)"
abbrev pub newline : ℕ
newline = 10

-- "Fields are parted by one space."
abbrev pub space : ℕ
space = 32

-- the pieces of a list that a byte ends, and what is left behind the last of them
pub record Split : Type 0 where
  pub ended : List (List ℕ)
  pub rest : List ℕ

-- one byte more in front of the first piece
unfoldable pub push : ℕ → Split → Split
push b s = elim s.ended [ [] ↦ record { ended = []; rest = b ∷ s.rest } | l ∷ ls ↦ record { ended = (b ∷ l) ∷ ls; rest = s.rest } ]

unfoldable pub split : ℕ → List ℕ → Split
unfolding push
split sep [] = record { ended = []; rest = [] }
split sep (b ∷ l) = let r = split sep l in cond (eqb b sep) (record { ended = [] ∷ r.ended; rest = r.rest }) (push b r)

-- the complete lines, and a tail that lacks its end
unfoldable pub lines : List ℕ → Split
unfolding split
lines text = split newline text

-- what a byte parts a list into: one piece more than there are such bytes
unfoldable pub parts : ℕ → List ℕ → List (List ℕ)
unfolding split
parts sep l = let s = split sep l in s.ended ++ s.rest ∷ []

-- the fields of a line: what its spaces part
unfoldable pub fields : List ℕ → List (List ℕ)
unfolding parts
fields line = parts space line

-- the parts from place i on: none past the end, where the last part was
unfoldable pub parts_from : ℕ → List ℕ → ℕ → List (List ℕ)
unfolding parts
parts_from sep l i = cond (leb i (length l)) (parts sep (drop i l)) []

-- how many bytes stand before the first that equals b, all of them where none does
unfoldable pub before : ℕ → List ℕ → ℕ
before b [] = 0
before b (x ∷ l) = cond (eqb x b) 0 (suc (before b l))

-- the two lines have the same bytes
unfoldable pub same_bytes : List ℕ → List ℕ → Bool
same_bytes [] [] = true
same_bytes [] (c ∷ m) = false
same_bytes (b ∷ l) [] = false
same_bytes (b ∷ l) (c ∷ m) = eqb b c && same_bytes l m

-- "both lines have the same length and bytes"
pub record SameLine (a b : List ℕ) : Type 0 where
  pub long : length a ≡ length b
  pub bytes : (k : ℕ) → k < length a → get_or a k 0 ≡ get_or b k 0
