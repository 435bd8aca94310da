-- The rows of both archives as they are written: the odd row, the other lines, and the marked rows.
use mathlib.Core.Path.{◌≡◌, sym, subst}
use mathlib.Core.List.{List, [], ◌∷◌, ◌++◌}
use Prim.Native.Nat.{ℕ, ◌≤◌}
use native.Mathlib.Omega.{arith}
use lib.ListN.{length, length-append}
use Rattle.theory.specs.Query.{Query, Fits}
use Rattle.theory.specs.Archive.{value}
use Rattle.theory.proofs.Tuples.{fits_over}
use Rattle.words.specs.Sets.{clear_bit}
use Rattle.model.specs.Limits.{most_lines}
use Rattle.model.specs.Rows.{HasRow, query_rows_long}
use Rattle.model.specs.declared.Tables.{Tables}
use Rattle.policy_text.specs.Declared.{Declared}
use Rattle.freezing.specs.Cells.{cells_of}
use Rattle.freezing.specs.Blocks.{SpareFound}
use Rattle.freezing.specs.Rows.{HasLine, LineFrozen}
use Rattle.apart.specs.Buffer.{Wide, PutAt, Holds}
use Rattle.apart.specs.Marking.{SomeMarking, MarkedPut}
use Rattle.apart.specs.Archives.{ToldApart}
use Rattle.apart.specs.Writing.{LinesPut, OddLine}
use Rattle.apart.proofs.Rows.{holds_none, holds_more, holds_length}
use Rattle.apart.proofs.FrozenLines.{frozen_narrow}
use Rattle.apart.proofs.ShownLines.{line_fits}
use Rattle.apart.proofs.Told.{S, A, held, low, odd, others, others_few, rows_apart}

module _ {d : Declared} {t : Tables} {ns : List ℕ} {Q : Query} {r : List ℕ} {i n : ℕ} {lines : List ℕ} {left k : ℕ}
    (o : OddLine d t ns Q r i n lines left k) where
  pub odd_row : length lines ≡ query_rows_long → HasRow lines k
  odd_row long = omega (arith, low o, (held o).count, (held o).few, long)

  pub odd_held : HasLine lines k (A o)
  odd_held = (held o).line k (omega (arith, low o, (held o).count))

  module _ {base : ℕ} (spare : SpareFound r lines base) {cells : List ℕ} (frozen : LineFrozen base lines k cells) where
    are : cells ≡ cells_of (odd o spare)
    are = frozen (A o) odd_held

    fits : Fits d.widths (odd o spare)
    fits = fits_over (value _ _) (A o) (line_fits o.shown k o.unsettled.there)

    pub marking : SomeMarking r cells
    marking = (d, t, odd o spare, o.ready, fits, are)

    first : (start : List ℕ) → Wide start → {out : List ℕ} → PutAt 0 cells start out → Holds start (odd o spare ∷ []) out
    first start wide {out} put =
        holds_more (holds_none start wide.room) (odd o spare) (frozen_narrow base odd_held)
        (subst (λ (l : List ℕ). PutAt 0 l start out) are put)

    pub first_wide : (start : List ℕ) → Wide start → {out : List ℕ} → PutAt 0 cells start out → Wide out
    first_wide start wide put = record { room = rw (holds_length (first start wide put) (omega arith)) wide.room }

    module _ (start : List ℕ) (wide : Wide start) (out next : List ℕ) {from w : ℕ} (put : PutAt 0 cells start out)
        (clear : w ≡ clear_bit left k) (lines_put : LinesPut base n lines w out next from) where
      behind : (from ≡ length (odd o spare ∷ others o spare)) × Holds start (odd o spare ∷ others o spare) next
      behind =
          subst (λ (v : ℕ). LinesPut base n lines v out next from) clear lines_put (S o) (held o) start (odd o spare) (first start wide put)

      pub room : (from ≤ most_lines) × Wide next
      room = (
        omega (arith, behind.0, others_few o spare),
        record { room = rw (holds_length behind.1 (omega (arith, others_few o spare))) wide.room },
      )

      pub rows_tell : {after : List ℕ} {count : ℕ} → MarkedPut base r i cells from next after count → ToldApart d i Q count start after
      rows_tell marked =
          let m = marked d t ns (odd o spare) o.ready o.partition fits are start _ (sym behind.0) behind.1 in
          let many = length-append (others o spare) m.extra in
          record {
            odd = odd o spare;
            others = others o spare ++ m.extra;
            few = omega (arith, m.count, many, others_few o spare, m.few);
            many = m.count;
            buffer = m.holds.are;
            apart = rows_apart o spare m.extra m.rows m.once;
          }
