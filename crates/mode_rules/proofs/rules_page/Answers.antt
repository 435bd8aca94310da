-- `rules_page`: the refusal of the policy, or the rules under its tables.
use Prim.Native.Nat.{◌≤◌}
use native.Mathlib.Omega.{arith}
use lib.ListN.{length}
use Rattle.text.specs.Names.{bytes}
use Rattle.policy_text.specs.Text.{load}
use Rattle.writing.proofs.Wrote.{wrote_as}
use Rattle.load.proofs.Accepted.{not_loaded}
use Rattle.run.proofs.Written.{loads_to}
use Rattle.page.specs.Refusal.{policy_refused}
use Rattle.page.proofs.Texts.{policy_shown}
use Rattle.mode_rules.specs.Sizes.{rules_room}
use Rattle.mode_rules.proofs.Loaded.{under_loaded, page_refused, page_accepted}
use Rattle.mode_rules.proofs.rules_page.Goals as goal

pub refusal_page-requires : goal.refusal_page-requires
refusal_page-requires c =
    let e = not_loaded _ c.load.result c.load.ensures _ c.in-Err.is in
    let room : rules_room ≤ length c.args.out.now = c.requires.1 in
    (omega arith, omega (arith, room), policy_shown _ _ _ e)

pub put_rules-requires : goal.put_rules-requires
put_rules-requires c =
    let (d, e, l) = loads_to _ c.load.result c.load.ensures _ c.in-Ok.is in
    let (short, room) = c.requires in
    (under_loaded _ d l, short, room)

pub returns-in-Err : goal.returns-in-Err
unfolding policy_refused bytes
returns-in-Err c =
    let e = not_loaded _ c.load.result c.load.ensures _ c.in-Err.is in
    wrote_as (page_refused _ _ _ _ e) c.refusal_page.ensures

pub returns-in-Ok : goal.returns-in-Ok
returns-in-Ok c =
    let (d, e, l) = loads_to _ c.load.result c.load.ensures _ c.in-Ok.is in
    wrote_as (page_accepted _ _ _ d l e) (c.put_rules.ensures (under_loaded _ d l))
