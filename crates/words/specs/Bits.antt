-- Words as numbers: a word of w bits is a number below 2 ^ w, and bit 0 is its lowest.
use Rattle.std.specs.Prelude.{Bool, ℕ, zero, suc, ◌+◌, ◌/◌, ◌%◌, ◌^◌, eqb}

-- bit k of a word
abbrev pub bit : ℕ → ℕ → ℕ
bit n k = n / 2 ^ k % 2

-- whether bit k is set
abbrev pub is_set : ℕ → ℕ → Bool
is_set n k = eqb (bit n k) 1

-- how many bits below w are set
unfoldable pub ones_below : ℕ → ℕ → ℕ
ones_below zero n = zero
ones_below (suc w) n = bit n w + ones_below w n

-- a word of 64 bits has two halves of 32
abbrev pub half_bits : ℕ
half_bits = 32
