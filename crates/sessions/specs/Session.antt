-- Document 01, "Session": "The partitions still open", as a word: partition n at bit n − 1.
use Rattle.std.specs.Prelude.{ℕ}
use Rattle.words.specs.Bits.{ones_below}

-- "the count of partitions still open"
abbrev pub open_count : ℕ → ℕ
open_count mask = ones_below 64 mask
