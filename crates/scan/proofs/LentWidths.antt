-- The columns of the tables, as they are lent.
use mathlib.Core.Path.{◌≡◌, ap, ◌∙◌}
use mathlib.Core.List.{List}
use Prim.Native.Nat.{ℕ, ◌+◌, ◌-◌, ◌≤◌, ◌<◌}
use native.Mathlib.Decide.{dec_lt}
use native.Mathlib.Omega.{arith}
use lib.Dec.{T}
use lib.ListN.{length, get_or, get_or-eq_default}
use Rattle.theory.specs.Query.{Line, Fits}
use Rattle.theory.proofs.Tuples.{get_d_mem}
use Rattle.model.specs.Limits.{most_tables, most_columns, line_within}
use Rattle.model.proofs.Limits.{up_to_iff, line_within_iff}
use Rattle.scan.specs.Places.{WidthThere}
use Rattle.scan.specs.Scanned.{Widths, SomeWidths}

-- a place that does not hold 0 is in the list
in_list : (l : List ℕ) (i : ℕ) → (get_or l i 0 ≡ 0 → ⊥) → i < length l
in_list l i f = go (dec_lt i (length l))
  where
    go : Dec (i < length l) → i < length l
    go (yes h) = h
    go (no h) = absurd (f (get_or-eq_default l 0 (omega arith)))

module _ {lent widths : List ℕ} (w : Widths lent widths) (t : ℕ) (first : 1 ≤ t) (last : t ≤ most_tables) where
  lent_width : get_or lent t 0 ≡ get_or widths (t - 1) 0
  lent_width =
      let place : t ≡ 1 + (t - 1) = omega arith in
      ap (λ (k : ℕ). get_or lent k 0) place ∙ w.width (t - 1) (omega arith)

  known : (get_or lent t 0 ≡ 0 → ⊥) → t - 1 < length widths
  known f = in_list widths (t - 1) (λ z. f (lent_width ∙ z))

  width_small : (get_or lent t 0 ≡ 0 → ⊥) → get_or lent t 0 ≤ most_columns
  width_small f =
      rw lent_width
      ((up_to_iff most_columns (get_or widths (t - 1) 0)).0 (w.narrow (get_or widths (t - 1) 0) (get_d_mem widths (t - 1) 0 (known f)))).1

-- a table has no more columns than a line may have terms
pub few_columns : {lent : List ℕ} → SomeWidths lent → (t width : ℕ) → 1 ≤ t → WidthThere lent t width → width ≤ most_columns
few_columns (widths, w) t width first there =
    rw there.is (width_small w t first there.last (λ z. omega (arith, there.some, there.is ∙ z)))

-- a line within the limits, with as many terms as were lent for its table
pub record Suits (lent : List ℕ) (A : Line) : Type 0 where
  pub within : T (line_within A)
  pub some : 1 ≤ length A.columns
  pub few : length A.columns ≤ most_columns
  pub width : length A.columns ≡ get_or lent A.table 0

pub suits_fits : {lent widths : List ℕ} {A : Line} → Widths lent widths → Suits lent A → Fits widths A
suits_fits {A = A} w s =
    let (first, last) = ((line_within_iff A).0 s.within).0 in
    record {
      first = first;
      last = omega (arith, known w A.table first last (λ z. omega (arith, s.some, s.width)));
      width = s.width ∙ lent_width w A.table first last;
    }
