-- `put_below`: the line that is left to find among the lines to come is the one looked for, and nothing is written before it is found.
use Rattle.std.proofs.Common.{◌≡◌, ◌≤◌, length}
use Rattle.std.specs.Slice.Iter.{split_inclusive_rest}
use Rattle.page.specs.Refusal.{line_below}
use Rattle.page.proofs.below.put_below.Given as goal

abbrev pub invariant-loop-piece : goal.invariant-loop-piece
invariant-loop-piece l =
    (goal.iterator-loop-piece).can_next l.piece-iterator × (goal.iterator-loop-piece).is_finite l.piece-iterator
    × (length (split_inclusive_rest l.piece-iterator) ≤ length l.text) × (1 ≤ l.left)
    × (line_below (split_inclusive_rest l.piece-iterator) l.left ≡ line_below l.text l.line) × (l.out ≡ l.initial.out)
