-- The views of one table as a word, built view by view: each view sets its bit in the word of its table.
use mathlib.Core.Path.{◌≡◌, sym}
use mathlib.Core.Bool.{true, false, cond}
use Prim.Native.Nat.{ℕ, ◌+◌, ◌^◌, ◌≤◌, ◌<◌}
use native.Mathlib.Decide.{ℕ_discrete}
use native.Mathlib.Omega.{arith}
use borrow.Author.Tests.{eq-eqb, ne_eqb}
use lib.Dec.{eqb}
use lib.ListN.{get_or}
use Rattle.words.specs.Sets.{set_bit, Upto}
use Rattle.words.proofs.Marks.{upto_none, upto_more}
use Rattle.words.proofs.SetBits.{set_bit_below}
use Rattle.model.specs.Limits.{most_views}
use Rattle.model.specs.declared.Policy.{Policy}
use Rattle.covering.specs.Views.{TableViews}
use Rattle.covering.proofs.Views.{no_line, table_done}

-- the word has the views of the table before place k
pub record Mask (p : Policy) (k table mask : ℕ) : Type 0 where
  pub below : mask < 2 ^ most_views
  pub marked : Upto (λ j. (get_or p.views j no_line).table ≡ table) k mask

module _ (p : Policy) where
  pub mask_none : (table : ℕ) → Mask p 0 table 0
  mask_none table = record { below = omega arith; marked = upto_none 0 (λ b l. absurd (omega arith)) }

  module _ {k table mask : ℕ} (m : Mask p k table mask) where
    -- one view more: its bit is set where it is of the table
    pub mask_more : k < most_views → {mask' : ℕ}
        → mask' ≡ cond (eqb table (get_or p.views k no_line).table) (set_bit mask k) mask → Mask p (k + 1) table mask'
    mask_more room {mask'} e = go (ℕ_discrete table (get_or p.views k no_line).table)
      where
        go : Dec (table ≡ (get_or p.views k no_line).table) → Mask p (k + 1) table mask'
        go (yes q) =
            rw (e, eq-eqb _ _ q)
            (record { below = set_bit_below most_views mask k m.below room; marked = upto_more true m.marked (λ y. sym q, λ y. tt) })
        go (no n) =
            rw (e, ne_eqb _ _ n)
            (record { below = m.below; marked = upto_more false m.marked (λ f. absurd f, λ y. absurd (n (sym y))) })

    pub mask_all : most_views ≤ k → TableViews p table mask
    mask_all all = record { below = m.below; bits = λ first views held. table_done held table _ k first all m.marked }
