use mathlib.Core.Path.{sym, ◌∙◌}
use native.Mathlib.Omega.{arith}
use lib.ListN.{drop_of_length-le}
use Rattle.text.proofs.Names.{same_true, same_behind, apart_here, byte_iff}
use Rattle.text.proofs.comparing.same_from.Goals as goal

pub returns-then-a-i : goal.returns-then-a-i
returns-then-a-i c =
    apart_here _ _ c.loop-i.i 1 (λ e. c.if-a-i.true ((byte_iff _ _ c.loop-i.i (omega arith) (omega arith)).1 e)) ∙ c.loop-i.invariant

pub loop-i-preserved : goal.loop-i-preserved
loop-i-preserved c =
    same_behind _ _ c.loop-i.i 1 ((byte_iff _ _ c.loop-i.i (omega arith) (omega arith)).0 c.if-a-i.false) ∙ c.loop-i.invariant

pub returns : goal.returns
returns c =
    let i = c.loop-i.i in
    same_true _ _ (drop_of_length-le _ {i = i} (omega arith) ∙ sym (drop_of_length-le _ {i = i} (omega arith))) ∙ c.loop-i.invariant
