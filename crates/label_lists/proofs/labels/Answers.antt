-- `labels`: 8, what the text is turned back for, or what `give_labels` does with its labels in ascending order.
use native.Mathlib.Omega.{arith}
use borrow.Author.Rules.{rules}
use Rattle.std.specs.Prelude.{Err}
use Rattle.words.proofs.Answers.{passes, fails}
use Rattle.word_list.specs.Order.{ascending}
use Rattle.labelling.proofs.Loaded.{loaded_to}
use Rattle.label_lists.proofs.Asked.{text_accepted, text_turned, labels_held}
use Rattle.label_lists.proofs.Listed.{unlisted, text_refused, text_listed}
use mathlib.Core.Path.{◌≡◌, ap}
use mathlib.Core.Bool.{not}
use Rattle.model.specs.Limits.{most_lines}
use Prim.Native.Nat.{◌≤◌}
use Rattle.label_lists.proofs.labels.Goals as goal
use Rattle.label_lists.proofs.labels.Goals.{In_ok-l}

pub returns-then-not-valid : goal.returns-then-not-valid
returns-then-not-valid c = unlisted (fails c.valid.ensures (ap not c.if-not-valid.true))

pub ask-requires : goal.ask-requires
ask-requires c =
    let l = passes c.valid.ensures (ap not c.if-not-valid.false) in (l.declared, loaded_to l)

-- the labels of a text that is a query
held : (c : In_ok-l) → c.in_ok-l.l.words.count ≤ most_lines
held c =
    let l = passes c.valid.ensures (ap not c.if-not-valid.false) in
    labels_held (text_accepted _ _ c.ask.ensures l _ c.in_ok-l.was).held

pub ascending-w-requires : goal.ascending-w-requires
ascending-w-requires c = held (goal.at.ascending-w-requires c).In_ok-l

pub give_labels-requires : goal.give_labels-requires
give_labels-requires c = omega (arith, c.ascending-w.ensures.count_value, held (goal.at.give_labels-requires c).In_ok-l)

pub returns : goal.returns
returns c =
    text_listed c.in_ok-l.l (passes c.valid.ensures (ap not c.if-not-valid.false))
    (λ l. text_accepted _ _ c.ask.ensures l _ c.in_ok-l.was)
    (λ ws e. c.give_labels.ensures (ascending ws) (c.ascending-w.ensures.by_index ws e))

pub returns-in_err-l : goal.returns-in_err-l
returns-in_err-l c =
    let e : c.from_residual.result ≡ Err c.in_err-l.field-0.0 = search rules in
    rw e (text_refused (passes c.valid.ensures (ap not c.if-not-valid.false))
    (λ l. text_turned _ _ c.ask.ensures l _ c.in_err-l.was))
