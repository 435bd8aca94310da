-- One partition more in the words of the views that it grants, word by word.
use mathlib.Core.Path.{◌≡◌, ap, ◌∙◌}
use mathlib.Core.Bool.{cond}
use mathlib.Core.List.{List}
use Prim.Native.Nat.{ℕ, ◌+◌, ◌≤◌, ◌<◌}
use native.Mathlib.Decide.{ℕ_discrete}
use native.Mathlib.Omega.{arith}
use lib.ListN.{length, get_or, set, length-set}
use lib.Seq.{get_or-set_same, get_or-set_other}
use Rattle.words.specs.Bits.{is_set}
use Rattle.words.specs.Sets.{set_bit}

-- the word at place j, with partition i where it grants the view
abbrev pub with_grant : ℕ → ℕ → ℕ → ℕ → ℕ
with_grant word i j g = cond (is_set word j) (set_bit g i) g

-- the words before k have the partition, the others are as they were
pub record Partly (word i k : ℕ) (grants r : List ℕ) : Type 0 where
  pub long : length r ≡ length grants
  pub done : (j : ℕ) → j < k → get_or r j 0 ≡ with_grant word i j (get_or grants j 0)
  pub rest : (j : ℕ) → k ≤ j → get_or r j 0 ≡ get_or grants j 0

module _ (word i : ℕ) (grants : List ℕ) where
  pub partly_more : {k : ℕ} {r : List ℕ} (g : ℕ) → k < length grants → Partly word i k grants r → g ≡ with_grant word i k (get_or r k 0)
      → Partly word i (k + 1) grants (set r k g)
  partly_more {k} {r} g room p e = record {
    long = length-set r k g ∙ p.long;
    done = λ j h. go j h (ℕ_discrete j k);
    rest = λ j h. get_or-set_other r k j g 0 (λ q. omega arith) ∙ p.rest j (omega arith);
  }
    where
      go : (j : ℕ) → j < k + 1 → Dec (j ≡ k) → get_or (set r k g) j 0 ≡ with_grant word i j (get_or grants j 0)
      go j h (yes q) =
          rw (q, get_or-set_same r k g 0 (omega (arith, p.long))) (e ∙ ap (with_grant word i k) (p.rest k (omega arith)))
      go j h (no n) = get_or-set_other r k j g 0 n ∙ p.done j (omega (arith, h, n))
