-- `check_page`: the refusal of the policy, or how much it has.
use Prim.Native.Nat.{◌≤◌}
use native.Mathlib.Omega.{arith}
use lib.ListN.{length}
use Rattle.text.specs.Names.{bytes}
use Rattle.policy_text.specs.Text.{load}
use Rattle.writing.proofs.Wrote.{wrote_as}
use Rattle.load.proofs.Accepted.{not_loaded}
use Rattle.run.proofs.Written.{loads_to}
use Rattle.page.specs.Sizes.{most_page}
use Rattle.page.specs.Refusal.{policy_refused}
use Rattle.page.proofs.Texts.{policy_shown}
use Rattle.mode_check.proofs.Checked.{page_refused, page_accepted}
use Rattle.mode_check.proofs.check_page.Goals as goal

pub refusal_page-requires : goal.refusal_page-requires
refusal_page-requires c =
    let e = not_loaded _ c.load.result c.load.ensures _ c.in-Err.is in
    let room : most_page ≤ length c.args.out.now = c.requires in
    (omega arith, room, policy_shown _ _ _ e)

pub returns-in-Err : goal.returns-in-Err
unfolding policy_refused bytes
returns-in-Err c =
    let e = not_loaded _ c.load.result c.load.ensures _ c.in-Err.is in
    wrote_as (page_refused _ _ _ e) c.refusal_page.ensures

pub returns-in-Ok : goal.returns-in-Ok
returns-in-Ok c =
    let (d, e, l) = loads_to _ c.load.result c.load.ensures _ c.in-Ok.is in
    wrote_as (page_accepted _ _ d e l.policy) c.put_counts.ensures
