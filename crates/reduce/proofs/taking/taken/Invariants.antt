-- `taken`: what is left of the query once the lines from `i` on were tried.
use Prim.Native.Nat.{ℕ, ◌^◌, ◌<◌}
use mathlib.Core.Path.{◌≡◌}
use lib.ListN.{length}
use Rattle.theory.specs.Query.{Query}
use Rattle.words.specs.Bits.{bit}
use Rattle.model.specs.Limits.{most_lines}
use Rattle.entering.specs.Left.{Folds}
use Rattle.reduce.specs.Pairs.{PairsTabled}
use Rattle.reduce.proofs.Passes.{Taking}
use Rattle.reduce.proofs.taking.taken.Given as goal

abbrev pub invariant-loop-i : goal.invariant-loop-i
invariant-loop-i l =
    (l.left < 2 ^ most_lines)
    × ((Q : Query) (e : length Q ≡ l.n) (t : PairsTabled Q l.rows l.candidates l.table) (there : (j : ℕ) → bit l.rows j ≡ 1 → j < length Q)
    (f : Folds Q l.rows) → Taking t there f l.i l.left)
