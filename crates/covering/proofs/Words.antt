-- A bit set where a test passes, in a word of a given width.
use mathlib.Core.Bool.{Bool, true, false, cond}
use Prim.Native.Nat.{ℕ, ◌^◌, ◌<◌}
use Rattle.words.specs.Sets.{set_bit}
use Rattle.words.proofs.SetBits.{set_bit_below}

pub set_where_below : (w m k : ℕ) (b : Bool) → m < 2 ^ w → k < w → cond b (set_bit m k) m < 2 ^ w
set_where_below w m k true h l = set_bit_below w m k h l
set_where_below w m k false h l = h
