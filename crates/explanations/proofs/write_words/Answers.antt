use Rattle.std.proofs.Common.{rules, arith, ◌≡◌, ◌<◌, length, take, get_or-take}
use Rattle.model.specs.Limits.{most_lines}
use Rattle.label_lists.proofs.Copied.{copied_none, copied_next, copied_all}
use Rattle.explanations.proofs.write_words.Goals as goal
use Rattle.explanations.proofs.write_words.Goals.{In-loop-i}

pub loop-i-init : goal.loop-i-init
loop-i-init c = copied_none _ _

long : (c : In-loop-i) → length c.args.words ≡ most_lines
long c = search rules

before : (c : In-loop-i) → c.loop-i.i < c.args.count
before c = search rules

pub overflow_cast-out : goal.overflow_cast-out
overflow_cast-out c = let h = before (goal.at.overflow_cast-out c).In-loop-i in rw get_or-take (record { fits = c.requires.2 c.loop-i.i })

pub loop-i-preserved : goal.loop-i-preserved
loop-i-preserved c =
    let start = (goal.at.loop-i-preserved c).In-loop-i in
    let h = before start in
    rw get_or-take (copied_next _ _ c.loop-i.invariant (omega (arith, long start)) (omega arith))

pub returns : goal.returns
returns c =
    let counted : length (take c.args.count c.args.words) ≡ c.args.count = search rules in
    copied_all _ _ c.loop-i.invariant (omega arith) (omega (arith, c.loop-i-test.false))
