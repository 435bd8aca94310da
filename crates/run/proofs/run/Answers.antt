-- `run`: the names line; then the refusal of the policy, or the lines of the queries.
use mathlib.Core.Path.{◌≡◌, refl}
use Prim.Native.Nat.{◌≤◌}
use native.Mathlib.Omega.{arith}
use lib.ListN.{length}
use Rattle.policy_text.specs.Text.{load, accepted}
use Rattle.policy_text.specs.Declared.{Declared}
use Rattle.labelling.specs.Text.{LoadedTo}
use Rattle.sessions.specs.Reply.{refused}
use Rattle.labelling.proofs.Posing.{counted, ready}
use Rattle.load.proofs.Accepted.{not_loaded}
use Rattle.run.specs.Sizes.{most_output, names_long}
use Rattle.run.specs.Output.{output_names, word_bytes}
use Rattle.run.proofs.Written.{loads_to, behind_names, written_refused, written_accepted}
use Rattle.run.proofs.run.Goals as goal
use Rattle.run.proofs.run.Goals.{After-put_bytes-at, In-Ok, Start}

-- ---- the names, and the policy that is loaded

abbrev named : In-Ok → After-put_bytes-at
named c = (goal.at.In-Ok c).After-put_bytes-at

abbrev start : In-Ok → Start
start c = (goal.at.In-Ok c).Start

loaded : (c : In-Ok)
    → (d : Declared) × (load (start c).args.policy.now ≡ accepted d) × LoadedTo c.in-Ok.p d
loaded c = loads_to (start c).args.policy.now c.load.result c.load.ensures _ c.in-Ok.is

-- ---- the needs

pub prepare_for_many-ready-requires : goal.prepare_for_many-ready-requires
prepare_for_many-ready-requires c = counted (loaded (goal.at.prepare_for_many-ready-requires c).In-Ok).2

pub open_loaded-opened-requires : goal.open_loaded-opened-requires
open_loaded-opened-requires c = c.prepare_for_many-ready.ensures.long

pub decide_all-requires : goal.decide_all-requires
decide_all-requires c =
    let s = start (goal.at.decide_all-requires c).In-Ok in
    let (d, e, l) = loaded (goal.at.decide_all-requires c).In-Ok in
    let b = named (goal.at.decide_all-requires c).In-Ok in
    let n : b.put_bytes-at.result ≡ names_long = b.put_bytes-at.ensures.next in
    let z : length b.put_bytes-at.new.out ≡ length s.args.out.now = b.put_bytes-at.ensures.size in
    let h : most_output ≤ length s.args.out.now = s.requires.1 in
    ((d, ready l c.prepare_for_many-ready.ensures), s.requires.0, omega (arith, n, z, h))

pub returns-in-Err : goal.returns-in-Err
unfolding word_bytes output_names
returns-in-Err c =
    let e = not_loaded _ c.load.result c.load.ensures _ c.in-Err.is in
    let n : c.put_bytes-at.result ≡ names_long = c.put_bytes-at.ensures.next in
    let z : length c.put_bytes-at.new.out ≡ length c.args.out.now = c.put_bytes-at.ensures.size in
    let h : most_output ≤ length c.args.out.now = c.requires.1 in
    record {
      wrote = behind_names _ c.put_bytes-at.ensures (c.put_line.ensures.line_written refused refl) (written_refused _ _ _ _ e);
      upper_bound = omega (arith, c.put_line.ensures.out_len_unchanged.0, c.put_line.ensures.out_len_unchanged.1, z, h);
    }

pub returns-in-Ok : goal.returns-in-Ok
unfolding output_names
returns-in-Ok c =
    let (d, e, l) = loaded (goal.at.returns-in-Ok c).In-Ok in
    let n : (named (goal.at.returns-in-Ok c).In-Ok).put_bytes-at.result ≡ names_long = (named (goal.at.returns-in-Ok c).In-Ok).put_bytes-at.ensures.next in
    let z : length (named (goal.at.returns-in-Ok c).In-Ok).put_bytes-at.new.out ≡ length (start (goal.at.returns-in-Ok c).In-Ok).args.out.now = (named (goal.at.returns-in-Ok c).In-Ok).put_bytes-at.ensures.size in
    let h : most_output ≤ length (start (goal.at.returns-in-Ok c).In-Ok).args.out.now = (start (goal.at.returns-in-Ok c).In-Ok).requires.1 in
    let prepared = ready l c.prepare_for_many-ready.ensures in
    let w = c.decide_all.ensures.all_written d prepared in
    record {
      wrote = behind_names _ (named (goal.at.returns-in-Ok c).In-Ok).put_bytes-at.ensures (rw (c.open_loaded-opened.ensures d _ prepared) at w) (written_accepted _ _ d e);
      upper_bound = omega (arith, w.size, c.decide_all.ensures.upper_bound, n, z, h);
    }
