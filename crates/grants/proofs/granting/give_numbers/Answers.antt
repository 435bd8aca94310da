-- `give_numbers`: 10, or the numbers copied and how many there are.
use native.Mathlib.Omega.{arith}
use borrow.Author.Rules.{rules}
use Rattle.grants.proofs.Replies.{as_many, numbers_narrow, written_short, written_given}
use Rattle.grants.proofs.granting.give_numbers.Goals as goal

pub returns-then-out-count : goal.returns-then-out-count
returns-then-out-count c = λ ns e. written_short ns e c.if-out-count.true

pub write_words-requires : goal.write_words-requires
write_words-requires c =
    let (ns, is, few, numbered) = c.requires in
    (omega (arith, few, as_many ns is), search rules, numbers_narrow ns is numbered)

pub returns : goal.returns
returns c = λ ns e. written_given ns e (omega arith) c.write_words.ensures
