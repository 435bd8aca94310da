-- The words of replies, and a number for each: what programs in other languages are told a reply by.
use Rattle.std.specs.Prelude.{ℕ}

-- document 01, "`yes`, `no` or `refused`" of deciding, "settled or not" of explaining; document 02, "`settled`" of telling apart (request 1)
-- and "`none`" of the smallest grant (request 5). What has no word there: a text or a policy value that is taken, a list that is given, rows
-- that tell apart, and a text that is written.
pub data Word : Type 0 where
  refused accepted yes no given settled unsettled apart none written : Word

abbrev pub word_number : Word → ℕ
word_number refused = 0
word_number accepted = 1
word_number yes = 2
word_number no = 3
word_number given = 4
word_number settled = 5
word_number unsettled = 6
word_number apart = 7
word_number none = 8
word_number written = 9
