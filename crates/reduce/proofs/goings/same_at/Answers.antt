use mathlib.Core.Path.{◌≡◌, ap₂, subst, ◌∙◌}
use mathlib.Core.Logic.{◌↔◌}
use Prim.Native.Nat.{◌<◌}
use native.Mathlib.Omega.{arith}
use borrow.Author.Tests.{not-true, not-false}
use lib.Dec.{T}
use Rattle.words.proofs.Answers.{true_holds, yes_iff, no_iff}
use Rattle.words.proofs.Bits.{bit_within}
use Rattle.words.proofs.Marks.{by_test}
use Rattle.model.specs.Limits.{most_columns}
use Rattle.model.specs.Rows.{laid_term}
use Rattle.model.specs.Value.{same_term}
use Rattle.model.proofs.Same.{same_term_iff}
use Rattle.reduce.proofs.Looked.{looked_none, looked_more, looked_all}
use mathlib.Core.Path.{ap}
use mathlib.Core.Bool.{not}
use Rattle.reduce.proofs.goings.same_at.Goals as goal
use Rattle.reduce.proofs.goings.same_at.Goals.{After-least-p, After-same_term}

pub loop-rest-init : goal.loop-rest-init
loop-rest-init c = (omega arith, looked_none)

pub least-p-requires : goal.least-p-requires
least-p-requires c = omega arith

-- a bit of the word is a column
small : (c : After-least-p) → c.least-p.result < most_columns
small c = bit_within most_columns _ c.loop-rest.invariant.0 c.least-p.ensures.set

pub term_at-requires : goal.term_at-requires
term_at-requires c = (omega arith, small c)

pub term_at-requires-in-loop-rest : goal.term_at-requires-in-loop-rest
term_at-requires-in-loop-rest c = (omega arith, small (goal.at.term_at-requires-in-loop-rest c).After-least-p)

-- the test says whether the terms in the rows are one
answer : (c : After-same_term)
    → (let least = c in
    let a = least.args in
    let p = least.least-p.result in
    T c.same_term.result ↔ (laid_term a.lines.now a.a p ≡ laid_term a.lines.now a.s p))
answer c =
    let e = c.same_term.ensures ∙ ap₂ same_term c.term_at.ensures c.term_at-in-loop-rest.ensures in
    by_test e (same_term_iff _ _)

pub returns-then-not-same_term : goal.returns-then-not-same_term
returns-then-not-same_term c =
    no_iff (λ same.
    let holds = (answer (goal.at.returns-then-not-same_term c).After-same_term).1 (same _ (c.loop-rest.invariant.1.some _ c.least-p.ensures.set)) in
    subst T (not-true c.same_term.result (ap not c.if-not-same_term.true)) holds)

pub drop_least-rest-requires : goal.drop_least-rest-requires
drop_least-rest-requires c = omega arith

pub loop-rest-smaller : goal.loop-rest-smaller
loop-rest-smaller c = c.drop_least-rest.ensures.less

pub loop-rest-preserved : goal.loop-rest-preserved
loop-rest-preserved c =
    let holds = true_holds (not-false c.same_term.result (ap not c.if-not-same_term.false)) in (
      omega (arith, c.drop_least-rest.ensures.less),
      looked_more c.loop-rest.invariant.1 c.least-p.ensures c.drop_least-rest.ensures ((answer (goal.at.loop-rest-preserved c).After-same_term).0 holds),
    )

pub returns : goal.returns
returns c = yes_iff (looked_all (rw c.loop-rest-test.false at c.loop-rest.invariant.1))
