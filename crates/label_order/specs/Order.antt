-- Document 01, "Order of labels", and document 02, request 7.
use Rattle.std.specs.Prelude.{Bool, ◌&&◌, ◌||◌, ℕ, ◌/◌, ◌%◌, ◌^◌, eqb}
use Rattle.words.specs.Bits.{half_bits}
use Rattle.words.specs.Sets.{include}

-- document 01: "their low halves are equal and X's high bits include all of Y's"
unfoldable pub includes_views : ℕ → ℕ → Bool
unfolding include
includes_views x y = eqb (x % 2 ^ half_bits) (y % 2 ^ half_bits) && include half_bits (x / 2 ^ half_bits) (y / 2 ^ half_bits)

-- document 02: "every word is at or below a word whose high half is 0, whichever tables they name. All other pairs compare as before."
unfoldable pub at_or_below : ℕ → ℕ → Bool
unfolding includes_views
at_or_below x y = eqb (y / 2 ^ half_bits) 0 || includes_views x y
