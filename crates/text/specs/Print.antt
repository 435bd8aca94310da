-- Document 01, "The texts", the other way round: how numerals, fields and lines are written. "decimal digits", "Fields are parted
-- by one space", "each line ended by byte 10 (decimal)".
--
-- Digits come from dividing by 10, and that is no recursion on a part of the number: `digits` counts down a number that is
-- large enough. `decimal_one` and `decimal_more` (`proofs/Decimals.antt`) are the equations a reader expects: a number below 10 is its
-- digit, any other what n / 10 is written as and the digit n % 10.
use Rattle.std.specs.Prelude.{cond, List, [], ◌∷◌, ◌++◌, ℕ, zero, suc, ◌+◌, ◌/◌, ◌%◌, ltb}
use Rattle.text.specs.Lines.{newline, space}

-- the byte of a digit
unfoldable pub digit : ℕ → ℕ
digit n = 48 + n

-- the last digits of n, at most that many
unfoldable pub digits : ℕ → ℕ → List ℕ
unfolding digit
digits zero n = []
digits (suc count) n = let r = digits count (n / 10) in cond (ltb n 10) (digit n ∷ []) (r ++ digit (n % 10) ∷ [])

-- a number below the count has fewer digits than the count
unfoldable pub decimal : ℕ → List ℕ
unfolding digits
decimal n = digits (suc n) n

-- parts with one byte between each and the next
unfoldable pub joined_by : ℕ → List (List ℕ) → List ℕ
joined_by sep [] = []
joined_by sep (p ∷ []) = p
joined_by sep (p ∷ q ∷ ps) = p ++ sep ∷ joined_by sep (q ∷ ps)

-- "parted by one space"
unfoldable pub joined : List (List ℕ) → List ℕ
unfolding joined_by
joined fs = joined_by space fs

-- "each line ended by byte 10"
unfoldable pub end_each : List (List ℕ) → List ℕ
end_each [] = []
end_each (l ∷ ls) = l ++ newline ∷ end_each ls
