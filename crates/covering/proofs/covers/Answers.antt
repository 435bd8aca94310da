use mathlib.Core.Path.{◌≡◌, refl, sym, ◌∙◌}
use Prim.Native.Nat.{◌<◌}
use native.Mathlib.Omega.{arith}
use borrow.Author.Count.{below_more}
use Rattle.theory.specs.Query.{Line as TheLine}
use Rattle.theory.specs.Cover.{at}
use Rattle.words.proofs.Bits.{bit_within}
use Rattle.covering.proofs.Columns.{Wide, wide, rule, column, passed_none, passed_row, passed_done, broken}
use Rattle.covering.proofs.covers.Goals as goal
use Rattle.covering.proofs.covers.Goals.{After-least-p, After-obeys}

pub columns-init : goal.columns-init
columns-init c = (refl, passed_none c.requires.0)

-- a bound column is a column
inside : (c : After-least-p)
    → c.least-p.result < c.args.width
inside c = bit_within _ _ c.columns.invariant.1.below c.least-p.ensures.set

pub term_at-x-requires : goal.term_at-x-requires
term_at-x-requires c = (omega arith, omega (arith, inside c))

pub term_at-y-requires : goal.term_at-y-requires
term_at-y-requires c = (omega arith, omega (arith, inside (goal.at.term_at-y-requires c).After-least-p))

-- what the rules answer at the two columns
answer : (c : After-obeys) (view line : TheLine)
    → (let inner = c in
    let found = inner in
    let r = found.args in
    Wide r.width r.views.now r.v view → Wide r.width r.lines.now r.a line
    → c.obeys.result ≡ rule view line found.least-p.result inner.loop-q.q)
answer c view line v a =
    let few = c.requires.1 in
    let p = c.least-p.result in
    let q = c.loop-q.q in
    let p_in = inside (goal.at.After-obeys c).After-least-p in
    let q_in = c.loop-q-test.true in
    let x = c.term_at-x.ensures ∙ column few v p p_in in
    let y = c.term_at-y.ensures ∙ column few a p p_in in
    let xq = c.term_at-xq.ensures ∙ column few v q q_in in
    let yq = c.term_at-yq.ensures ∙ column few a q q_in in
    c.obeys.ensures (at view p) (at view q) (at line p) (at line q) x xq y yq

pub loop-q-preserved : goal.loop-q-preserved
loop-q-preserved c =
    let inv = c.loop-q.invariant in (
      inv.0,
      below_more _ _ inv.1 (λ view line v a. sym (answer (goal.at.loop-q-preserved c).After-obeys view line v a) ∙ c.if-not-obeys.false),
    )

pub columns-preserved : goal.columns-preserved
columns-preserved c = (
  c.loop-q.invariant.0,
  passed_row c.columns.invariant.1 c.least-p.ensures c.drop_least-rest.ensures
      (λ j l. c.loop-q.invariant.1 j (omega (arith, l, c.loop-q-test.false))),
)

pub returns-after-columns : goal.returns-after-columns
returns-after-columns c view line ev ea t wv wa free =
    let inv = c.columns.invariant in
    inv.0
    ∙ passed_done view line (wide ev wv) (wide ea wa) inv.1 c.columns-test.false c.requires.1 free t

pub returns-then-not-obeys : goal.returns-then-not-obeys
returns-then-not-obeys c view line ev ea t wv wa free =
    let v = wide ev wv in
    let a = wide ea wa in
    broken view line v a _ _ (inside (goal.at.returns-then-not-obeys c).After-least-p) c.loop-q-test.true
    (sym (answer (goal.at.returns-then-not-obeys c).After-obeys view line v a) ∙ c.if-not-obeys.true) t
