-- `put_lines`: the rows of the lines at the bits of the word before `k` stand behind the one row.
use mathlib.Core.List.{List, [], ◌∷◌}
use Prim.Native.Nat.{ℕ, ◌+◌, ◌≤◌}
use Rattle.theory.specs.Query.{Query}
use Rattle.theory.specs.Archive.{Row}
use Rattle.apart.specs.Buffer.{Holds}
use Rattle.apart.specs.Writing.{HasLines}
use Rattle.apart.proofs.FrozenLines.{LinesSome}
use Rattle.apart.proofs.writing.put_lines.Given as goal

abbrev pub invariant-loop-k : goal.invariant-loop-k
invariant-loop-k l =
    (l.count ≤ l.k + 1)
    × ((S : Query) → HasLines S l.n l.lines → (start : List ℕ) (odd : Row) → Holds start (odd ∷ []) l.initial.out
    → LinesSome l.base l.others S start odd l.k l.out l.count)
