use mathlib.Core.Path.{◌≡◌, refl, ap, ◌∙◌}
use mathlib.Core.List.{List}
use Prim.Native.Nat.{◌<◌}
use native.Mathlib.Omega.{arith}
use lib.ListN.{length, get_or}
use Rattle.theory.proofs.Tuples.{get_d_mem}
use Rattle.model.specs.Limits.{most_columns}
use Rattle.model.proofs.Values.{mapped_long}
use Rattle.model.specs.declared.Term.{Term}
use Rattle.numbering.proofs.Numbered.{changed_next, changed_more, numbered_all}
use Rattle.numbering.proofs.lines.number_line.Goals as goal
use Rattle.numbering.proofs.lines.number_line.Goals.{In-loop-t, Start}

terms_long : (c : Start) → length c.args.l.terms ≡ most_columns
terms_long c = search mapped_long

inside : (c : In-loop-t) → c.loop-t.t-index < length c.args.l.terms
inside c = omega (arith, terms_long (goal.at.In-loop-t c).Start, c.loop-t-test.true)

-- this term is the line's own yet
next : (c : In-loop-t) (d : Term) → get_or c.loop-t.t-items c.loop-t.t-index d ≡ get_or c.args.l.terms c.loop-t.t-index d
next c d = ap (λ (ts : List Term). get_or ts c.loop-t.t-index d) c.loop-t.invariant ∙ changed_next _ _ _ d (inside c)

pub number_term-requires : goal.number_term-requires
number_term-requires c =
    let e = goal.at.number_term-requires c in
    rw (next e.In-loop-t) (c.requires.0 _ (get_d_mem _ _ _ (inside e.In-loop-t)), c.requires.1)

pub loop-t-preserved : goal.loop-t-preserved
loop-t-preserved c =
    let e = (goal.at.loop-t-preserved c).In-loop-t in
    rw (c.loop-t.invariant, c.number_term.ensures) (rw (next e) (changed_more _ _ _ _ (inside e)))

pub returns : goal.returns
returns c =
    let all = numbered_all c.args.keys.now c.args.shown c.loop-t.t-index c.args.l (omega (arith, terms_long (goal.at.returns c).Start, c.loop-t-test.false)) in
    rw c.loop-t.invariant all
