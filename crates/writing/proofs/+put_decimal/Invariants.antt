-- The measure is the number, which a tenth of it is below.
use Rattle.writing.proofs.+put_decimal.Given as goal

abbrev pub decreases-put_decimal : goal.decreases-put_decimal
decreases-put_decimal l = l.n
