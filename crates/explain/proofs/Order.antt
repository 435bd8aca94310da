-- "Words ascend as numbers."
use mathlib.Core.List.{List, map}
use Prim.Native.Nat.{ℕ}
use lib.Bits.{bit_and}
use Rattle.words.proofs.Answers.{either}
use Rattle.word_list.specs.Order.{Ascends}
use Rattle.word_list.proofs.Sorted.{ascending_ascends}
use Rattle.labelling.specs.Settled.{settled}
use Rattle.explain.specs.Explanation.{views_of, distinct, least, lacking, explained}

pub explained_ascends : (granted : ℕ) (ws : List ℕ) → Ascends (explained granted ws)
unfolding explained
explained_ascends granted ws =
    either Ascends (settled granted ws) (ascending_ascends (map (λ w. bit_and (views_of w) granted) ws))
    (ascending_ascends (distinct (least (lacking granted ws))))
