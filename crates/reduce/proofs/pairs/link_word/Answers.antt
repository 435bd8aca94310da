use native.Mathlib.Omega.{arith}
use Rattle.theory.specs.Executable.Test.{kind, number}
use Rattle.model.specs.Value.{term_value}
use Rattle.reduce.proofs.Links.{passed_none, passed_more, passed_all, linking}
use Rattle.reduce.proofs.pairs.link_word.Goals as goal

pub loop-rest-init : goal.loop-rest-init
loop-rest-init c = λ has. passed_none c.requires.3

pub least-requires : goal.least-requires
least-requires c = omega arith

pub column_of-p-requires : goal.column_of-p-requires
column_of-p-requires c = (omega arith, omega arith)

pub column_of-q-requires : goal.column_of-q-requires
column_of-q-requires c = (omega arith, omega arith)

pub agree_word-w-requires : goal.agree_word-w-requires
agree_word-w-requires c =
    (c.requires.0, c.column_of-p.ensures.below, c.column_of-q.ensures.below, c.requires.3)

pub drop_least-rest-requires : goal.drop_least-rest-requires
drop_least-rest-requires c = omega arith

pub loop-rest-smaller : goal.loop-rest-smaller
loop-rest-smaller c = c.drop_least-rest.ensures.less

pub loop-rest-preserved : goal.loop-rest-preserved
unfolding term_value kind number
loop-rest-preserved c = λ has.
    let word = c.agree_word-w in
    let second = c.column_of-q in
    let first = c.column_of-p in
    let n = c.least.result in
    let passed = c.loop-rest.invariant has in
    let (x, y) = has n (passed.some n c.least.ensures.set) in
    passed_more word.result passed c.least.ensures c.drop_least-rest.ensures
    (linking n _ word.result x y first.ensures second.ensures word.ensures)

pub returns : goal.returns
returns c = λ has. passed_all (rw c.loop-rest-test.false at (c.loop-rest.invariant has))
