-- A value that is not past every limit is that of the digits with one more.
use mathlib.Core.Path.{sym, ◌∙◌}
use Rattle.text.proofs.Numerals.{value_is}
use Rattle.scan.proofs.numbers.numeral_with.Goals as goal

pub numeral_between-requires-clause-digits_between : goal.numeral_between-requires-clause-digits_between
numeral_between-requires-clause-digits_between c = rw (value_is _ _ (sym c.with_digit.ensures ∙ c.in-Value.is)) at c.requires.d_bound.1
