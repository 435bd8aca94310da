-- What writing to a buffer leaves in it.
use Rattle.std.specs.Prelude.{◌≡◌, List, ◌++◌, ℕ, ◌+◌, length, take, drop}

-- the most digits of a number of 64 bits
abbrev pub most_word_digits : ℕ
most_word_digits = 20

-- and the byte behind them that ends the field
abbrev pub most_field_bytes : ℕ
most_field_bytes = most_word_digits + 1

-- The bytes `bs` stand behind the `at` bytes in front, which are as they were; the next place is r, and from there on
-- the buffer is as it was.
pub record Wrote (was : List ℕ) (at : ℕ) (bs : List ℕ) (is : List ℕ) (r : ℕ) : Type 0 where
  pub front : take r is ≡ take at was ++ bs
  pub next : r ≡ at + length bs
  pub rest : drop r is ≡ drop r was
  pub size : length is ≡ length was
