-- `labels_page`: the refusal of the policy, or the page under it.
use Prim.Native.Nat.{◌≤◌}
use native.Mathlib.Omega.{arith}
use borrow.Author.Rules.{rules}
use lib.ListN.{length}
use Rattle.text.specs.Names.{bytes}
use Rattle.policy_text.specs.Text.{load}
use Rattle.writing.proofs.Wrote.{wrote_as}
use Rattle.load.proofs.Accepted.{not_loaded}
use Rattle.mode_check.proofs.Loads.{loads_loadable}
use Rattle.page.specs.Sizes.{most_page}
use Rattle.page.specs.Refusal.{policy_refused}
use Rattle.page.proofs.Texts.{policy_shown}
use Rattle.mode_labels.proofs.Replied.{page_refused, page_accepted}
use Rattle.mode_labels.proofs.labels_page.Goals as goal

pub refusal_page-requires : goal.refusal_page-requires
refusal_page-requires c =
    let e = not_loaded _ c.load.result c.load.ensures _ c.in-Err.is in
    let room : most_page ≤ length c.args.out.now = c.requires in
    (omega arith, room, policy_shown _ _ _ e)

pub labels_under-requires : goal.labels_under-requires
labels_under-requires c =
    ((loads_loadable _ c.load.result c.load.ensures _ c.in-Ok.is).0, search rules)

pub returns-in-Err : goal.returns-in-Err
unfolding policy_refused bytes
returns-in-Err c =
    let e = not_loaded _ c.load.result c.load.ensures _ c.in-Err.is in
    wrote_as (page_refused _ _ _ _ e) c.refusal_page.ensures

pub returns-in-Ok : goal.returns-in-Ok
returns-in-Ok c =
    let (l, e) = loads_loadable _ c.load.result c.load.ensures _ c.in-Ok.is in
    wrote_as (page_accepted _ _ l.declared e) (c.labels_under.ensures l)
