-- "a word of eight bytes at a time": bytes as one number, which the code compares in their place.
use Rattle.std.specs.Prelude.{List, [], ◌∷◌, ℕ, ◌+◌, ◌*◌, get_or}

-- the bytes as digits, the first the lowest
abbrev pub little_endian : List ℕ → ℕ
little_endian [] = 0
little_endian (b ∷ l) = b + 256 * little_endian l

-- the eight bytes from place i on
abbrev pub eight_at : List ℕ → ℕ → List ℕ
eight_at l i =
    get_or l i 0 ∷ get_or l (i + 1) 0 ∷ get_or l (i + 2) 0 ∷ get_or l (i + 3) 0 ∷ get_or l (i + 4) 0 ∷ get_or l (i + 5) 0 ∷ get_or l (i + 6) 0
    ∷ get_or l (i + 7) 0 ∷ []
