-- `explain`: 8, 4, what the text is turned back for, or what `give_words` does with its labels.
use mathlib.Core.Path.{◌≡◌}
use mathlib.Core.Bool.{true}
use Prim.Native.Nat.{◌≤◌}
use native.Mathlib.Omega.{arith}
use borrow.Author.Rules.{rules}
use Rattle.std.specs.Prelude.{Err}
use Rattle.words.proofs.Answers.{passes, fails, passing, failing}
use Rattle.model.specs.Limits.{most_partitions, up_to}
use Rattle.validity.specs.Loadable.{Loadable}
use Rattle.labelling.proofs.Loaded.{loaded_to}
use Rattle.label_lists.proofs.Asked.{text_accepted, text_turned}
use Rattle.explanations.proofs.Explained.{partition_place, unexplained, no_partition, text_refused, settled_same, text_explained}
use mathlib.Core.Path.{ap}
use mathlib.Core.Bool.{not}
use Rattle.explanations.proofs.explain.Goals as goal
use Rattle.explanations.proofs.explain.Goals.{Else-not-is_among}

pub returns-then-not-valid : goal.returns-then-not-valid
returns-then-not-valid c = unexplained (fails c.valid.ensures (ap not c.if-not-valid.true))

pub returns-then-not-is_among : goal.returns-then-not-is_among
returns-then-not-is_among c =
    let valid = passes c.valid.ensures (ap not c.if-not-valid.false) in
    no_partition valid (failing c.is_among.ensures (ap not c.if-not-is_among.true))

-- the policy is loadable, and the partition one of its own
is_loadable : (c : Else-not-is_among) → Loadable c.args.p
is_loadable c = passes c.valid.ensures (ap not c.if-not-valid.false)

among : (c : Else-not-is_among) →
    let a = c.args in
    up_to a.p.partition_count a.n ≡ true
among c = passing c.is_among.ensures (ap not c.if-not-is_among.false)

place : (c : Else-not-is_among) →
    let n = c.args.n in
    (1 ≤ n) × (n ≤ most_partitions)
place c = partition_place (is_loadable c) _ (among c)

pub ask-requires : goal.ask-requires
ask-requires c = let l = is_loadable c in (l.declared, loaded_to l)

pub overflow_sub-n : goal.overflow_sub-n
overflow_sub-n c = (place (goal.at.overflow_sub-n c).Else-not-is_among).0

pub granted_views-granted-requires : goal.granted_views-granted-requires
granted_views-granted-requires c = let (from, to) = place (goal.at.granted_views-granted-requires c).Else-not-is_among in omega (arith, from, to)

pub overflow_sub-n-2 : goal.overflow_sub-n-2
overflow_sub-n-2 c = (place (goal.at.overflow_sub-n-2 c).Else-not-is_among).0

pub has_bit-is_settled-requires : goal.has_bit-is_settled-requires
has_bit-is_settled-requires c = let (from, to) = place (goal.at.has_bit-is_settled-requires c).Else-not-is_among in omega (arith, from, to)

pub give_words-requires : goal.give_words-requires
give_words-requires c =
    let l = is_loadable (goal.at.give_words-requires c).Else-not-is_among in
    let q = text_accepted _ _ c.ask.ensures l _ c.in_ok-l.was in
    (_, q.held, settled_same (record { among = among (goal.at.give_words-requires c).Else-not-is_among; views = c.granted_views-granted.ensures; says = c.has_bit-is_settled.ensures }) l q)

pub returns : goal.returns
returns c =
    text_explained (is_loadable (goal.at.returns c).Else-not-is_among) (record { among = among (goal.at.returns c).Else-not-is_among; views = c.granted_views-granted.ensures; says = c.has_bit-is_settled.ensures })
    (λ l. text_accepted _ _ c.ask.ensures l _ c.in_ok-l.was) c.give_words.ensures

pub returns-in_err-l : goal.returns-in_err-l
returns-in_err-l c =
    let e : c.from_residual.result ≡ Err c.in_err-l.field-0.0 = search rules in
    rw e (text_refused (is_loadable (goal.at.returns-in_err-l c).Else-not-is_among) (among (goal.at.returns-in_err-l c).Else-not-is_among) (λ l. text_turned _ _ c.ask.ensures l _ c.in_err-l.was))
