-- Document 01, "Explanation": for the labels of a query and the granted views of a partition.
use Rattle.std.specs.Prelude.{Bool, cond, not, ◌&&◌, List, [], ◌∷◌, map, ℕ, ◌/◌, ◌^◌, eqb}
use Rattle.std.specs.Int.Bits.{bit_and}
use Rattle.words.specs.Bits.{half_bits}
use Rattle.theory.specs.Executable.Test.{any}
use Rattle.words.specs.Sets.{include}
use Rattle.word_list.specs.Order.{ascending}
use Rattle.labelling.specs.Settled.{holds_one, settled}

-- the views of a label, "view n at bit n − 1"
unfoldable pub views_of : ℕ → ℕ
views_of w = w / 2 ^ half_bits

-- the elements that pass, in order
unfoldable pub keep : (ℕ → Bool) → List ℕ → List ℕ
keep f [] = []
keep f (x ∷ l) = cond (f x) (x ∷ keep f l) (keep f l)

-- "without repeats": the last of equal words is kept
unfoldable pub distinct : List ℕ → List ℕ
unfolding any
distinct [] = []
distinct (w ∷ l) = cond (any (eqb w) l) (distinct l) (w ∷ distinct l)

-- word v strictly includes word w
unfoldable pub exceeds : ℕ → ℕ → Bool
unfolding include
exceeds v w = include 64 v w && not (eqb v w)

-- "without any word that strictly includes another"
unfoldable pub least : List ℕ → List ℕ
unfolding keep any exceeds
least ws = keep (λ v. not (any (exceeds v) ws)) ws

-- "the views of each label that holds no granted view"
unfoldable pub lacking : ℕ → List ℕ → List ℕ
unfolding keep holds_one views_of
lacking granted ws = map views_of (keep (λ w. not (holds_one granted w)) ws)

-- "If settled: each label's views that are granted, one 32-bit word per label … If not: the views of each label that holds no
-- granted view … Words ascend as numbers, repeats kept in the settled case only."
unfoldable pub explained : ℕ → List ℕ → List ℕ
unfolding settled ascending views_of lacking least distinct
explained granted ws =
    cond (settled granted ws) (ascending (map (λ w. bit_and (views_of w) granted) ws)) (ascending (distinct (least (lacking granted ws))))
