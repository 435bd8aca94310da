use mathlib.Core.Path.{sym, subst, ◌∙◌}
use mathlib.Core.Bool.{false≢true}
use Prim.Native.Nat.{ℕ, ◌<◌}
use native.Mathlib.Omega.{arith}
use Rattle.words.proofs.Bits.{bit_within}
use Rattle.words.proofs.Answers.{yes_iff, no_iff}
use Rattle.model.specs.Limits.{most_lines}
use Rattle.reduce.proofs.Rows.{Tried, extends_none, extends_join, empty_none, tried_none, tried_more, tried_all}
use Rattle.reduce.proofs.assignment.+search.Goals as goal
use Rattle.reduce.proofs.assignment.+search.Goals.{After-least}

pub returns-then-rows-eq0 : goal.returns-then-rows-eq0
returns-then-rows-eq0 t c = yes_iff (extends_none (omega arith))

pub returns-then-not-rows_left : goal.returns-then-not-rows_left
returns-then-not-rows_left t c = no_iff (empty_none (c.rows_left.ensures c.if-not-rows_left.true))

pub row_of-row-requires : goal.row_of-row-requires
row_of-row-requires t c = (bit_within most_lines _ c.requires.rows_bound.0 c.least-k.ensures.set, c.requires.rows_bound.1)

pub loop-row-init : goal.loop-row-init
loop-row-init t c =
    let first = c.least-k.ensures in
    let others = c.drop_least-rest.ensures in (first, others, tried_none _ _ _ _ _ _ first others c.row_of-row.ensures)

-- the line and its target are lines of the query
line : (t : ℕ) (c : After-least t) → c.least-k.result < most_lines
line t c = bit_within most_lines _ c.requires.rows_bound.0 c.least-k.ensures.set

target : (t : ℕ) (c : After-least t) → c.least.result < most_lines
target t c = bit_within most_lines _ c.requires.rows_bound.1 (c.loop-row.invariant.2.some _ c.least.ensures.set).0

pub bounds-table-at : goal.bounds-table-at
bounds-table-at t c =
    let at = (goal.at.bounds-table-at t c).After-least in omega (arith, line t at, target t at)

pub returns-then-search : goal.returns-then-search
returns-then-search t c =
    let (first, others, tried) = c.loop-row.invariant in
    let found = c.least in
    yes_iff
    (extends_join _ _ _ _ _ _ first others found.result (c.search.ensures.0 c.if-search.true)
    (tried.some found.result found.ensures.set))

pub loop-row-preserved : goal.loop-row-preserved
loop-row-preserved t c =
    let (first, others, tried) = c.loop-row.invariant in (
      first,
      others,
      tried_more _ _ _ _ _ _ first others tried c.least.ensures c.drop_least-row.ensures
          (λ x. false≢true (sym c.if-search.false ∙ c.search.ensures.1 x)),
    )

pub returns : goal.returns
returns t c =
    let (first, others, tried) = c.loop-row.invariant in
    no_iff (tried_all _ _ _ _ _ _ first others (subst (Tried _ _ _ _ _ _ first others) c.loop-row-test.false tried))
