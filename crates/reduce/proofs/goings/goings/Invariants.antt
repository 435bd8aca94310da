-- `goings`: the word has the pairs of the lines before `a`, and those of line `a` are put above them.
use Prim.Native.Nat.{◌*◌, ◌^◌, ◌<◌}
use Rattle.theory.specs.Query.{Query}
use Rattle.words.specs.Sets.{Upto}
use Rattle.model.specs.Limits.{most_lines}
use Rattle.entering.specs.Worded.{Given}
use Rattle.reduce.specs.Pairs.{Going}
use Rattle.reduce.proofs.goings.goings.Given as goal

abbrev pub invariant-loop-a : goal.invariant-loop-a
invariant-loop-a l =
    (l.m < 2 ^ (l.a * most_lines)) × ((Q : Query) → Given Q l.n l.lines l.words → Upto (Going Q) (l.a * most_lines) l.m)
