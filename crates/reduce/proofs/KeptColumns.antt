-- The columns without a hidden variable as a word, and the one test of two lines that is made before their terms are compared.
use mathlib.Core.Path.{◌≡◌, sym, ◌∙◌}
use mathlib.Core.Logic.{◌↔◌, ⊎_elim}
use mathlib.Core.Bool.{cond}
use mathlib.Core.List.{List}
use Prim.Native.Nat.{ℕ, ◌+◌, ◌-◌, ◌^◌, ◌<◌}
use native.Mathlib.Nat.{lt_of_le_of_lt}
use native.Mathlib.Omega.{arith}
use lib.Bits.{bit_and, bit_or, bit_xor, and_le_l, and_le_r, or_add_and, xor_add_and, xor_self}
use lib.Dec.{T, eqb}
use mir.Facts.{eqb_yes, yes_eqb}
use Rattle.words.specs.Bits.{bit}
use Rattle.words.specs.Sets.{set_bit, Without, Upto}
use Rattle.words.proofs.Bits.{bit_zero, bit_cases, bit_within, bits_ext}
use Rattle.words.proofs.ClearBits.{low_bits_set}
use Rattle.words.proofs.Marks.{upto_more}
use Rattle.words.proofs.Masks.{bit_and_iff}
use Rattle.model.specs.Limits.{most_columns}
use Rattle.model.specs.Rows.{laid_table}
use Rattle.entering.specs.Worded.{columns_word}
use Rattle.reduce.specs.LineTargets.{Near}

-- ---- words that have nothing in common, or all

or_none : (a b : ℕ) → (bit_or a b ≡ 0) ↔ ((a ≡ 0) × (b ≡ 0))
or_none a b = (
  λ e. (omega (arith, or_add_and a b, and_le_l a b, and_le_r a b), omega (arith, or_add_and a b, and_le_l a b, and_le_r a b)),
  λ r. omega (arith, or_add_and a b, r.0, r.1),
)

xor_none : (a b : ℕ) → (bit_xor a b ≡ 0) ↔ (a ≡ b)
xor_none a b = (λ e. omega (arith, xor_add_and a b, and_le_l a b, and_le_r a b), λ e. rw e (xor_self b))

and_none : (w a b : ℕ) → a < 2 ^ w → (bit_and a b ≡ 0) ↔ ((k : ℕ) → bit a k ≡ 1 → bit b k ≡ 1 → ⊥)
and_none w a b small = (
  λ e k x y. let h = (bit_and_iff a b k).1 (x, y) in omega (arith, bit_zero k, rw e at h),
  λ f. bits_ext w (bit_and a b) 0 (lt_of_le_of_lt (and_le_l a b) small) (lt_of_le_of_lt (omega arith) small)
      (λ k l.
      ⊎_elim (λ z. z ∙ sym (bit_zero k)) (λ e. let r = (bit_and_iff a b k).0 e in absurd (f k r.0 r.1))
      (bit_cases (bit_and a b) k)),
)

-- one word tells whether a row is near, from the tables of the rows and the hidden columns of its line
near_iff : (rows words : List ℕ) (a kept s : ℕ) {t u w : ℕ} → kept < 2 ^ 64 → t ≡ laid_table rows a → u ≡ laid_table rows s
    → w ≡ columns_word words s → T (eqb (bit_or (bit_xor t u) (bit_and kept w)) 0) ↔ Near rows words a kept s
near_iff rows words a kept s {t} {u} {w} small et eu ew =
    let o = or_none (bit_xor t u) (bit_and kept w) in
    let x = xor_none t u in
    let k = and_none 64 kept w small in (
      λ e. let r = o.0 (eqb_yes e) in record { table = sym et ∙ x.0 r.0 ∙ eu; apart = rw ew at (k.0 r.1) },
      λ r. yes_eqb (o.1 (x.1 (et ∙ r.table ∙ sym eu), k.1 (rw ew r.apart))),
    )

pub near_more : (rows words : List ℕ) (a kept s : ℕ) {t u w m : ℕ} (r : ℕ) → kept < 2 ^ 64 → t ≡ laid_table rows a → u ≡ laid_table rows s
    → w ≡ columns_word words s → r ≡ cond (eqb (bit_or (bit_xor t u) (bit_and kept w)) 0) (set_bit m s) m → Upto (Near rows words a kept) s m
    → Upto (Near rows words a kept) (s + 1) r
near_more rows words a kept s {t} {u} {w} r small et eu ew er k =
    rw er (upto_more (eqb (bit_or (bit_xor t u) (bit_and kept w)) 0) k (near_iff rows words a kept s small et eu ew))

-- ---- every column but those of a word

abbrev pub Kept : ℕ → ℕ → Type 0
Kept w kept = Without (2 ^ most_columns - 1) w kept

module _ {w kept : ℕ} (k : Kept w kept) where
  pub kept_small : kept < 2 ^ most_columns
  kept_small = k.below most_columns (omega arith)

  pub kept_iff : (p : ℕ) → (bit kept p ≡ 1) ↔ ((p < most_columns) × (bit w p ≡ 0))
  kept_iff p = (
    λ e. let r = (k.bits p).0 e in (bit_within most_columns p (omega arith) r.0, r.1),
    λ r. (k.bits p).1 (low_bits_set most_columns p r.0, r.1),
  )
