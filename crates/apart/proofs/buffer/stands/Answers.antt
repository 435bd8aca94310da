use mathlib.Core.Path.{refl, sym, ◌∙◌}
use mathlib.Core.Bool.{false≢true}
use Prim.Native.Nat.{◌≤◌}
use native.Mathlib.Omega.{arith}
use borrow.Author.Count.{below_more}
use Rattle.apart.proofs.buffer.stands.Goals as goal

pub returns-then-same_row : goal.returns-then-same_row
returns-then-same_row c =
    record {
      stands = λ e. (c.loop-k.k, omega arith, omega arith, c.same_row.ensures.same c.if-same_row.true);
      said = λ k h g e. refl;
    }

pub loop-k-preserved : goal.loop-k-preserved
loop-k-preserved c =
    below_more (λ j. c.args.from ≤ j → _) _ c.loop-k.invariant
    (λ h e. false≢true (sym c.if-same_row.false ∙ c.same_row.ensures.said e))

pub returns : goal.returns
returns c =
    record {
      stands = λ e. absurd (false≢true e);
      said = λ k h g e. absurd (c.loop-k.invariant k (omega (arith, g, c.loop-k-test.false)) h e);
    }
