-- Weights compare as lengths and then as sums of costs: the costs of a list that is looked for weigh less than one view.
use mathlib.Core.Path.{◌≡◌}
use mathlib.Core.Logic.{inl}
use mathlib.Core.List.Memᴰ
use mathlib.Core.List.{List, [], ◌∷◌}
use Prim.Native.Nat.{ℕ, ◌+◌, ◌*◌, ◌^◌, ◌≤◌, ◌<◌}
use native.Mathlib.Decide.{dec_le}
use native.Mathlib.Omega.{arith}
use lib.ListN.{length}
use Rattle.words.proofs.Bits.{bit_zero}
use Rattle.theory.proofs.Lists.{none_long}
use Rattle.policy_text.specs.WellFormed.{ascend}
use Rattle.hitting.specs.Best.{Numbered, of_view, Hits, sum, Best}
use Rattle.hitting.specs.Table.{view_weight, most_cost, Searched, weight, Lightest}
use Rattle.hitting.proofs.Lightest.{few_sets, numbered_none}
use Rattle.hitting.proofs.Chosen.{Chosen, chosen_numbered, chosen_useful, chosen_hits, chosen_weight, chosen_ascends, chosen_first}

module _ (costs : List ℕ) where
  weight_parts : (l : List ℕ) → weight costs l ≡ length l * view_weight + sum costs l
  unfolding weight sum
  weight_parts [] = omega arith
  weight_parts (v ∷ l) = omega (arith, weight_parts l)

  module _ (cheap : (v : ℕ) → of_view costs v ≤ most_cost) where
    sum_bound : (l : List ℕ) → sum costs l ≤ length l * most_cost
    unfolding sum
    sum_bound [] = omega arith
    sum_bound (v ∷ l) = omega (arith, sum_bound l, cheap v)

    -- A list that is no heavier than another is no longer. One that is shorter has at most 4,094 views, and their costs weigh less than
    -- one view does.
    no_longer : (l M : List ℕ) → length l < 4096 → weight costs l ≤ weight costs M → length l ≤ length M
    no_longer l M short h = go (dec_le (length l) (length M))
      where
        go : Dec (length l ≤ length M) → length l ≤ length M
        go (yes q) = q
        go (no n) = absurd (omega (arith, weight_parts l, weight_parts M, sum_bound M))

pub best_of : (hits costs : List ℕ) (k m : ℕ) {l : List ℕ} → Searched hits costs k → m < 2 ^ k → Chosen hits costs m l → (w : ℕ)
    → Lightest hits costs m w → w ≤ m * (view_weight + most_cost) → Best hits costs m l
best_of hits costs k m {l} s small c w F bound = record {
  numbered = chosen_numbered hits costs c;
  useful = chosen_useful hits costs c;
  ascending = chosen_ascends hits costs c;
  hits_all = chosen_hits hits costs c;
  fewest = λ M n h. no_longer costs s.cheap l M short (lightest M n h);
  cheapest = λ M n h e. omega (arith, lightest M n h, weight_parts costs l, weight_parts costs M, e);
  first = λ M n h e f. chosen_first hits costs c M n h (omega (arith, weight_parts costs l, weight_parts costs M, e, f));
}
  where
    weighs : weight costs l ≡ w
    weighs = chosen_weight hits costs c w F

    lightest : (M : List ℕ) → Numbered M → Hits hits m M → weight costs l ≤ weight costs M
    lightest M n h = omega (arith, weighs, F.least M n h)

    -- it weighs less than 256 views do, as a set of at most eight labels is a number below 256
    short : length l < 4096
    short = omega (arith, weight_parts costs l, weighs, bound, few_sets hits costs m s small)

-- for no label the best list is empty
pub best_nothing : (hits costs : List ℕ) → Best hits costs 0 []
unfolding sum ascend
best_nothing hits costs = record {
  numbered = numbered_none;
  useful = λ v i. absurd (Memᴰ.not-nil i);
  ascending = tt;
  hits_all = λ j x. absurd (omega (arith, bit_zero j, x));
  fewest = λ M n h. omega arith;
  cheapest = λ M n h e. omega arith;
  first = λ M n h e s. inl (none_long M e);
}
