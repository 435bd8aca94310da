-- `give_labels`: 10, or the labels copied.
use native.Mathlib.Omega.{arith}
use Rattle.label_lists.proofs.Listed.{lists_short, lists_given}
use Rattle.label_lists.proofs.give_labels.Goals as goal

pub returns-then-out-count : goal.returns-then-out-count
returns-then-out-count c = λ ws e. lists_short c.args.l ws e (omega arith)

pub returns : goal.returns
returns c = λ ws e.
    lists_given c.args.l ws e _ (omega arith) c.copy_words.ensures
