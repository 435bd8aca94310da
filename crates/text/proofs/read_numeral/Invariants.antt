-- The loop's invariant: the bytes read are digits, and stand for the value.
use Rattle.text.proofs.Numerals.{Digits}
use Rattle.text.proofs.read_numeral.Given as goal

abbrev pub invariant-loop-b : goal.invariant-loop-b
invariant-loop-b l = Digits l.field l.value l.b-index
