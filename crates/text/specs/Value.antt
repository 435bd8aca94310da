-- The code's answers as these definitions give them.
use Rattle.std.specs.Prelude.{cond, List, ℕ, leb}
use Rattle.std.proofs.Math.Option.{Option, none, some}
use Rattle.text.specs.Numeral.{numeral, constant_limit}
use Rattle.text.specs.declared.Numeral.{Numeral}
use Rattle.text.specs.declared.Numeral.TheVariants.{Malformed, Large, Value}

-- a numeral's value, with a mark where it is past every limit
unfoldable pub limited : Option ℕ → Numeral
limited none = Malformed
limited (some n) = cond (leb n constant_limit) (Value n) Large

unfoldable pub numeral_value : List ℕ → Numeral
unfolding limited numeral
numeral_value field = limited (numeral field)
