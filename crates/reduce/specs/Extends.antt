-- Lines and targets as the bits of words.
use Rattle.std.specs.Prelude.{◌≡◌, List, ℕ, ◌<◌, get_or}
use Rattle.words.specs.Bits.{bit}
use Rattle.reduce.specs.PairNumbers.{pair_of}

-- r holds the targets of line k that are among `targets`
pub record TargetsOf (c targets k r : ℕ) : Type 0 where
  pub some : (j : ℕ) → bit r j ≡ 1 → (bit targets j ≡ 1) × (bit c (pair_of k j) ≡ 1)
  pub all : (j : ℕ) → bit targets j ≡ 1 → bit c (pair_of k j) ≡ 1 → bit r j ≡ 1

-- some line of `rows` has no target
pub record EmptyRow (rows targets c : ℕ) : Type 0 where
  pub line : ℕ
  pub in_rows : bit rows line ≡ 1
  pub none : (j : ℕ) → bit targets j ≡ 1 → bit c (pair_of line j) ≡ 1 → ⊥

-- Each line of `rows` has one of its targets, one of `targets`, and the word of each such pair has those of the later lines.
pub record Extends (rows targets c : ℕ) (words : List ℕ) : Type 0 where
  pub target : ℕ → ℕ
  pub allowed : (i : ℕ) → bit rows i ≡ 1 → bit targets (target i) ≡ 1
  pub candidate : (i : ℕ) → bit rows i ≡ 1 → bit c (pair_of i (target i)) ≡ 1
  pub joint : (i j : ℕ) → bit rows i ≡ 1 → bit rows j ≡ 1 → i < j → bit (get_or words (pair_of i (target i)) 0) (pair_of j (target j)) ≡ 1
