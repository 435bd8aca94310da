-- The order of labels, by the halves of two words.
use mathlib.Core.Path.{◌≡◌, sym, ◌∙◌}
use mathlib.Core.Logic.{◌↔◌, ◌⊎◌, inl, inr, ⊎_elim}
use mathlib.Core.Bool.{true, false, and-eq-true_iff}
use Prim.Native.Nat.{ℕ, ◌/◌, ◌%◌, ◌^◌, ◌≤◌, ◌<◌}
use native.Mathlib.Decide.{ℕ_discrete}
use native.Mathlib.Omega.{arith}
use borrow.Author.Tests.{eqb-true, eq-eqb, ne_eqb}
use Rattle.words.specs.Bits.{bit, half_bits}
use Rattle.words.specs.Sets.{include}
use Rattle.words.proofs.Answers.{same_answer}
use Rattle.words.proofs.Bits.{bit_within}
use Rattle.words.proofs.Tests.{include_iff}
use Rattle.label_order.specs.Order.{includes_views, at_or_below}

-- to include a word of w bits, only the bits below w matter
include_narrow : (w v a b : ℕ) → w ≤ v → b < 2 ^ w → include v a b ≡ include w a b
include_narrow w v a b h small =
    same_answer (include v a b) (include w a b)
    (λ e. (include_iff w a b).1 (λ k l. (include_iff v a b).0 e k (omega arith)))
    (λ e. (include_iff v a b).1 (λ k l p. (include_iff w a b).0 e k (bit_within w k small p) p))

-- x has the table of y, and its views
pub record Includes (x y : ℕ) : Type 0 where
  pub table : x % 2 ^ half_bits ≡ y % 2 ^ half_bits
  pub views : (k : ℕ) → k < half_bits → bit (y / 2 ^ half_bits) k ≡ 1 → bit (x / 2 ^ half_bits) k ≡ 1

module _ (x y : ℕ) where
  -- "every word is at or below a word whose high half is 0"
  pub below_bare : y / 2 ^ half_bits ≡ 0 → at_or_below x y ≡ true
  unfolding at_or_below
  below_bare e = simp (eq-eqb (y / 2 ^ half_bits) 0 e)

  -- "All other pairs compare as before."
  pub as_before : (y / 2 ^ half_bits ≡ 0 → ⊥) → at_or_below x y ≡ includes_views x y
  unfolding at_or_below
  as_before f = simp (ne_eqb (y / 2 ^ half_bits) 0 f)

  pub other_table : (y / 2 ^ half_bits ≡ 0 → ⊥) → (x % 2 ^ half_bits ≡ y % 2 ^ half_bits → ⊥) → at_or_below x y ≡ false
  unfolding includes_views
  other_table f n = as_before f ∙ simp (ne_eqb (x % 2 ^ half_bits) (y % 2 ^ half_bits) n)

  pub same_table : (y / 2 ^ half_bits ≡ 0 → ⊥) → x % 2 ^ half_bits ≡ y % 2 ^ half_bits → y < 2 ^ 64
      → at_or_below x y ≡ include 64 (x / 2 ^ half_bits) (y / 2 ^ half_bits)
  unfolding includes_views
  same_table f e small =
      as_before f ∙ (simp (eq-eqb (x % 2 ^ half_bits) (y % 2 ^ half_bits) e))
      ∙ sym (include_narrow half_bits 64 (x / 2 ^ half_bits) (y / 2 ^ half_bits) (omega arith) (omega arith))

  includes_iff : (includes_views x y ≡ true) ↔ Includes x y
  unfolding includes_views
  includes_iff =
      let both = and-eq-true_iff _ (include half_bits (x / 2 ^ half_bits) (y / 2 ^ half_bits)) in
      let all = include_iff half_bits (x / 2 ^ half_bits) (y / 2 ^ half_bits) in (
        λ e. record { table = eqb-true _ _ (both.0 e).0; views = all.0 (both.0 e).1 },
        λ i. both.1 (eq-eqb _ _ i.table, all.1 i.views),
      )

  -- what the order asks
  pub below_iff : (at_or_below x y ≡ true) ↔ ((y / 2 ^ half_bits ≡ 0) ⊎ Includes x y)
  below_iff = (go (ℕ_discrete (y / 2 ^ half_bits) 0), λ s. ⊎_elim below_bare (λ i. back (ℕ_discrete (y / 2 ^ half_bits) 0) i) s)
    where
      go : Dec (y / 2 ^ half_bits ≡ 0) → at_or_below x y ≡ true → (y / 2 ^ half_bits ≡ 0) ⊎ Includes x y
      go (yes e) t = inl e
      go (no f) t = inr (includes_iff.0 (sym (as_before f) ∙ t))

      back : Dec (y / 2 ^ half_bits ≡ 0) → Includes x y → at_or_below x y ≡ true
      back (yes e) i = below_bare e
      back (no f) i = as_before f ∙ includes_iff.1 i
