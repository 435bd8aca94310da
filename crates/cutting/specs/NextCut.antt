-- What is known of the place where a text is cut first.
use Rattle.std.specs.Prelude.{◌≡◌, List, ◌∷◌, ℕ, ◌≤◌, ◌<◌, length, take, drop}
use Rattle.text.specs.Lines.{newline, before}
use Rattle.cutting.specs.Cut.{cut}

-- the first line of a text is complete and has as many bytes as `table terms`
pub record Starts (text : List ℕ) : Type 0 where
  pub line : before newline text ≡ 11
  pub ended : 11 < length text

-- The first r bytes are the first query text; the complete first line is among them, and what follows starts a query.
pub record NextCut (text : List ℕ) (r : ℕ) : Type 0 where
  pub within : r ≤ length text
  pub some : 0 < r
  pub pieces : cut text ≡ take r text ∷ cut (drop r text)
  pub line : before newline text < length text → before newline text < r
  pub starts : r < length text → Starts (drop r text)
