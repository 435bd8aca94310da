-- `put_rule`: the text that importing wrote, or the lines of a refusal.
use Prim.Native.Nat.{◌+◌, ◌*◌, ◌≤◌}
use native.Mathlib.Omega.{arith}
use lib.ListN.{length}
use Rattle.writing.specs.Wrote.{Wrote}
use Rattle.writing.proofs.Wrote.{wrote_as}
use Rattle.page.proofs.FoundLine.{wrote_from}
use Rattle.mode_rules.specs.Sizes.{each_byte}
use Rattle.mode_rules.specs.RulesPage.{rule_bytes}
use Rattle.mode_rules.specs.Writing.{Under}
use Rattle.mode_rules.proofs.Bound.{refused_short}
use Rattle.mode_rules.proofs.Entry.{Back, entry_written, entry_turned}
use Rattle.mode_rules.proofs.put_rule.Goals as goal
use Rattle.mode_rules.proofs.put_rule.Goals.{After-import_checked, In-Err, In-Ok, Start}

abbrev start : After-import_checked → Start
start i = (goal.at.After-import_checked i).Start

room : (i : After-import_checked) → (let a = (start i).args in a.at + each_byte * length a.rule.now ≤ length a.out.now)
room i = let (_, _, _, _, h) = (start i).requires in omega (arith, h)

abbrev before : In-Ok → After-import_checked
before c = (goal.at.In-Ok c).After-import_checked

written : (c : In-Ok) → (let i = before c in let a = (start i).args in
    (u : Under a.tables)
    → Wrote a.out.now a.at (rule_bytes u.widths a.k a.rule.now a.shown.now) i.import_checked.new.out (a.at + c.in-Ok.bytes)
    × (c.in-Ok.bytes ≤ each_byte * length a.rule.now))
written c u =
    let i = before c in
    let a = (start i).args in
    entry_written u.widths a.rule.now a.k a.shown.now u.narrow a.at i.import_checked.result a.out.now _
    (room i) (i.import_checked.ensures.rule_given u.widths u.value u.narrow) _ c.in-Ok.is

abbrev imported : In-Err → After-import_checked
imported n = (goal.at.In-Err n).After-import_checked

back : (n : In-Err) → (let i = imported n in let a = (start i).args in
    (u : Under a.tables)
    → Back u.widths a.rule.now a.k a.shown.now u.narrow a.at i.import_checked.result a.out.now
    i.import_checked.new.out (room i) (i.import_checked.ensures.rule_given u.widths u.value u.narrow) n.in-Err.field-0.number
    n.in-Err.field-0.line)
back n u =
    let i = imported n in
    let a = (start i).args in
    entry_turned u.widths a.rule.now a.k a.shown.now u.narrow a.at i.import_checked.result a.out.now _
    (room i) (i.import_checked.ensures.rule_given u.widths u.value u.narrow) _ _ n.in-Err.is

pub overflow_add-result : goal.overflow_add-result
overflow_add-result c =
    let w = (goal.at.overflow_add-result c).In-Ok in
    omega (arith, room (before w), (written w c.requires.0).1)

pub returns-in-Ok : goal.returns-in-Ok
returns-in-Ok c =
    let w = (goal.at.returns-in-Ok c).In-Ok in
    record {
      rule_written = λ u. (written w u).0;
      upper_bound = omega (arith, (written w c.requires.0).1);
    }

pub returns-in-Err : goal.returns-in-Err
returns-in-Err c =
    let n = (goal.at.returns-in-Err c).In-Err in
    let a = c.args in
    let (u, some, fewer, low, h) = c.requires in
    let b = back n u in
    let short = refused_short a.k a.shown.now n.in-Err.field-0.number n.in-Err.field-0.line (omega (arith, low)) (omega (arith, b.low)) (omega (arith, b.first)) in
    record {
      rule_written = λ v. wrote_from (back n v).stays (wrote_as (back n v).are c.put_turned.ensures);
      upper_bound = omega (arith, c.put_turned.ensures.next, short, some, fewer);
    }
