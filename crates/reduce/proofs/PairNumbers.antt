-- The line and the target of a pair, and the pairs of two lines.
use mathlib.Core.Path.{◌≡◌}
use mathlib.Core.Logic.{◌≢◌, ⊎_elim}
use mathlib.Core.Bool.{◌||◌}
use Prim.Native.Nat.{ℕ, ◌<◌}
use native.Mathlib.Omega.{arith}
use lib.Dec.{eqb}
use mir.Facts.{eqb_yes}
use Rattle.theory.specs.Executable.Test.{all_below}
use Rattle.theory.proofs.Executable.Test.{or_iff, all_below_iff}
use Rattle.words.specs.Bits.{bit, is_set}
use Rattle.model.specs.Limits.{most_lines}
use Rattle.reduce.specs.PairNumbers.{most_pairs, pair_of, line_of, target_of}

module _ (i j : ℕ) (h : j < most_lines) where
  pub line_of_lem : line_of (pair_of i j) ≡ i
  line_of_lem = omega arith

  pub target_of_lem : target_of (pair_of i j) ≡ j
  target_of_lem = omega arith

-- the pairs of two lines, as bits
abbrev pub moving : ℕ
moving = 9205322385119247870

pub moving_set : (p : ℕ) → p < most_pairs → line_of p ≢ target_of p → bit moving p ≡ 1
unfolding all_below
moving_set p l f =
    let all = (all_below_iff (λ k. eqb (line_of k) (target_of k) || is_set moving k) most_pairs).0 tt in
    ⊎_elim (λ t. absurd (f (eqb_yes t))) (λ t. eqb_yes t) ((or_iff (eqb (line_of p) (target_of p)) (is_set moving p)).0 (all p l))
