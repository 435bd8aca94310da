-- What a field says where a numeral is wanted, and the number that `up_to` gives for it: 0 where it is not from 1 to the most.
use mathlib.Core.Path.{◌≡◌, refl, ◌∙◌}
use mathlib.Core.Logic.{⊎_elim}
use mathlib.Core.Bool.{Bool, true, false, cond, ◌&&◌, and-false}
use mathlib.Core.Option.{Option, none, some}
use Prim.Native.Nat.{ℕ, ◌≤◌, zero-le}
use native.Mathlib.Nat.{eq-zero-or-pos}
use native.Mathlib.Decide.{dec_le}
use native.Mathlib.Omega.{arith}
use lib.Dec.{leb, lit<}
use borrow.Author.Tests.{le-leb, lt-leb, leb-true, leb-false}
use Rattle.text.specs.Numeral.{constant_limit}
use Rattle.text.specs.Value.{limited}
use Rattle.text.proofs.Numerals.{word_within}
use Rattle.text.specs.declared.Numeral.TheVariants.{Malformed, Large, Value}
use Rattle.text.specs.declared.Numeral.{Numeral}
use Rattle.model.specs.Limits.{most_tables, most_columns, most_views, most_partitions, up_to}
use Rattle.model.specs.Parsed.{up_to_value}

-- ---- whether a field is a numeral

pub malformed_none : (o : Option ℕ) → limited o ≡ Malformed → o ≡ none
unfolding limited
malformed_none none e = refl
malformed_none (some n) e = absurd (go (leb n constant_limit) e)
  where
    go : (t : Bool) → cond t (Value n) Large ≡ Malformed → ⊥
    go true e = let z : ◌≡◌ {A = ℕ} 0 1 = cc in omega arith
    go false e = let z : ◌≡◌ {A = ℕ} 0 1 = cc in omega arith

pub formed_some : (o : Option ℕ) → (limited o ≡ Malformed → ⊥) → (n : ℕ) × (o ≡ some n)
unfolding limited
formed_some none f = absurd (f refl)
formed_some (some n) f = (n, refl)

-- ---- whether its number is from 1 to the most

-- a most that is below the limit of constants
pub tables_small : most_tables ≤ constant_limit
tables_small = word_within most_tables (lit< tt)

pub columns_small : most_columns ≤ constant_limit
columns_small = word_within most_columns (lit< tt)

pub views_small : most_views ≤ constant_limit
views_small = word_within most_views (lit< tt)

pub partitions_small : most_partitions ≤ constant_limit
partitions_small = word_within most_partitions (lit< tt)

module _ (most : ℕ) (small : most ≤ constant_limit) (n : ℕ) where
  -- a large number is past the most
  pub up_to_value_lem : up_to_value (limited (some n)) most ≡ cond (leb n most) n 0
  unfolding limited up_to_value
  up_to_value_lem = go (leb n constant_limit) refl
    where
      go : (t : Bool) → leb n constant_limit ≡ t → up_to_value (cond t (Value n) Large) most ≡ cond (leb n most) n 0
      go true e = refl
      go false e = rw (lt-leb n most (omega (arith, leb-false n constant_limit e)))

  pub up_to_past : up_to_value (limited (some n)) most ≡ 0 → up_to most n ≡ false
  unfolding up_to
  up_to_past e = go (dec_le n most)
    where
      go : Dec (n ≤ most) → (leb 1 n && leb n most) ≡ false
      go (yes h) = rw (lt-leb 1 n (omega (arith, rw (up_to_value_lem, le-leb n most h) at e)))
      go (no h) = rw (lt-leb n most (omega arith), and-false)

  pub up_to_within : (up_to_value (limited (some n)) most ≡ 0 → ⊥) → (up_to most n ≡ true) × (up_to_value (limited (some n)) most ≡ n)
  unfolding up_to
  up_to_within f = go (dec_le n most)
    where
      go : Dec (n ≤ most) → ((leb 1 n && leb n most) ≡ true) × (up_to_value (limited (some n)) most ≡ n)
      go (yes h) =
          let e : up_to_value (limited (some n)) most ≡ n = rw (up_to_value_lem, le-leb n most h) in
          let first : 1 ≤ n = ⊎_elim (λ z. absurd (f (e ∙ z))) (λ p. p) (eq-zero-or-pos n) in
          (rw (le-leb 1 n first, le-leb n most h), e)
      go (no h) = absurd (f (rw (up_to_value_lem, lt-leb n most (omega arith))))

module _ (most : ℕ) (small : most ≤ constant_limit) where
  pub number_past : (o : Option ℕ) → (limited o ≡ Malformed → ⊥) → up_to_value (limited o) most ≡ 0
      → (n : ℕ) × (o ≡ some n) × (up_to most n ≡ false)
  unfolding limited
  number_past none f e = absurd (f refl)
  number_past (some n) f e = (n, refl, up_to_past most small n e)

  pub number_within : (o : Option ℕ) → (up_to_value (limited o) most ≡ 0 → ⊥)
      → (n : ℕ) × (o ≡ some n) × (up_to most n ≡ true) × (up_to_value (limited o) most ≡ n)
  unfolding limited up_to_value
  number_within none f = absurd (f refl)
  number_within (some n) f = let w = up_to_within most small n f in (n, refl, w.0, w.1)

pub up_to_most : (number : Numeral) (most : ℕ) → up_to_value number most ≤ most
unfolding up_to_value
up_to_most Malformed most = zero-le
up_to_most Large most = zero-le
up_to_most (Value n) most = go (leb n most) refl
  where
    go : (t : Bool) → leb n most ≡ t → cond t n 0 ≤ most
    go true e = leb-true n most e
    go false e = zero-le
