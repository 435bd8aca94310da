-- The marked rows of the views of a row's table, one view after the other: room for each, and what is written.
use mathlib.Core.Path.{◌≡◌, sym, ap, subst, ◌∙◌}
use mathlib.Core.Bool.{true, false}
use mathlib.Core.List.{List}
use mathlib.Core.Option.{some}
use Prim.Native.Nat.{ℕ, ◌+◌, ◌^◌, ◌≤◌, ◌<◌}
use native.Mathlib.Decide.{dec_lt}
use native.Mathlib.Nat.{le_refl}
use native.Mathlib.Omega.{arith}
use lib.ListN.{length, get_or, get_elem?}
use borrow.Author.Tests.{eqb-true, eqb-false}
use Rattle.theory.specs.Query.{Fits}
use Rattle.theory.specs.Archive.{Row}
use Rattle.words.specs.Bits.{bit, is_set}
use Rattle.words.specs.Sets.{Least, LeastDropped}
use Rattle.words.proofs.Bits.{bit_within}
use Rattle.words.proofs.Lowest.{dropped_same}
use Rattle.words.proofs.Marks.{left_before}
use Rattle.model.specs.Limits.{most_views}
use Rattle.model.specs.declared.Tables.{Tables}
use Rattle.policy_text.specs.Declared.{Declared}
use Rattle.covering.specs.Prepared.{table_word, grant_word}
use Rattle.labelling.specs.Posed.{Ready}
use Rattle.freezing.specs.Cells.{cells_of}
use Rattle.freezing.proofs.RowCells.{table_at}
use Rattle.apart.specs.Buffer.{Holds}
use Rattle.apart.specs.Marking.{ViewPut, MarkedPut}
use Rattle.apart.proofs.TableViews.{fits_table, view_beside, partition_known, listed_iff, listed_granted}
use Rattle.apart.proofs.MarkedRows.{marked_width, MarkedSome, marked_none, marked_same, marked_more, marked_all}

-- ---- room

-- behind `from` rows there are no more than the views before each that is left: bits are taken from the least on
pub record RoomLeft (from left count : ℕ) : Type 0 where
  pub small : left < 2 ^ most_views
  pub least : from ≤ count
  pub most : count ≤ from + most_views
  pub each : (k : ℕ) → bit left k ≡ 1 → count ≤ from + k

pub room_all : (from left : ℕ) → left < 2 ^ most_views → RoomLeft from left from
room_all from left h = record { small = h; least = le_refl from; most = omega arith; each = λ k e. omega arith }

module _ {from left count k : ℕ} (room : RoomLeft from left count) (l : Least 64 left k) where
  -- a bit of the word is the place of a view
  pub view_place : k < most_views
  view_place = bit_within most_views k room.small l.set

  -- after one view there is at most one row more
  pub room_next : {next n : ℕ} → LeastDropped 64 left next → count ≤ n → n ≤ count + 1 → RoomLeft from next n
  room_next {next} {n} d low high = record {
    small = omega (arith, d.less, room.small);
    least = omega (arith, room.least, low);
    most = omega (arith, room.each k l.set, view_place, high);
    each = λ j e. behind j e (dec_lt k j);
  }
    where
      behind : (j : ℕ) → bit next j ≡ 1 → Dec (k < j) → n ≤ from + j
      behind j e (yes h) = omega (arith, room.each k l.set, high, h)
      behind j e (no h) = absurd (no_later (dec_lt j k))
        where
          no_later : Dec (j < k) → ⊥
          no_later (yes g) = omega (arith, l.none j g, left_before j l d e)
          no_later (no g) =
              let same : j ≡ k = omega (arith, h, g) in omega (arith, dropped_same d l, subst (λ (x : ℕ). bit next x ≡ 1) same e)

-- ---- what is written

-- the views of the odd row's table that are no longer in `left`, of the partition at place i
abbrev pub MarkedSoFar : ℕ → List ℕ → ℕ → List ℕ → ℕ → List ℕ → ℕ → List ℕ → ℕ → Type 0
MarkedSoFar base r i cells from before left out count =
    (d : Declared) (t : Tables) (ns : List ℕ) (odd : Row) → Ready d t r → get_elem? d.partitions i ≡ some ns → Fits d.widths odd
    → cells ≡ cells_of odd → (start : List ℕ) (head : List Row) → length head ≡ from → Holds start head before
    → MarkedSome d.views ns base odd start head (table_word r odd.table) left out count

-- the first cell is the table
pub cells_table : {cells : List ℕ} (odd : Row) → cells ≡ cells_of odd → get_or cells 0 0 ≡ odd.table
cells_table odd are = ap (λ (l : List ℕ). get_or l 0 0) are ∙ table_at odd

module _ (base : ℕ) (r : List ℕ) (i : ℕ) (cells : List ℕ) (from : ℕ) (before : List ℕ) where
  pub so_far_none : (left : ℕ) → left ≡ table_word r (get_or cells 0 0) → MarkedSoFar base r i cells from before left before from
  so_far_none left e d t ns odd ready at fits are start head first h =
      let mask = e ∙ ap (table_word r) (cells_table odd are) in
      rw (mask, ← first) (marked_none before h)

  module _ {left k next count : ℕ} {out : List ℕ} (l : Least 64 left k) (p : LeastDropped 64 left next) (small : k < most_views)
      (so_far : MarkedSoFar base r i cells from before left out count) where
    -- a view that the partition does not grant
    pub so_far_same : is_set (grant_word r k) i ≡ false → MarkedSoFar base r i cells from before next out count
    so_far_same e d t ns odd ready at fits are start head first h =
        marked_same (so_far d t ns odd ready at fits are start head first h) l p
        (λ m. eqb-false _ _ e ((listed_iff ready i ns at k small).1 m))

    pub so_far_more : {after : List ℕ} {n : ℕ} → is_set (grant_word r k) i ≡ true → ViewPut base r k cells from count out after n
        → MarkedSoFar base r i cells from before next after n
    so_far_more e put d t ns odd ready at fits are start head first h =
        let m = so_far d t ns odd ready at fits are start head first h in
        let of_table = ready.bits odd.table fits.first (fits_table ready.good fits) in
        let (v, there, table) = (of_table k).0 (m.entered.some k l.set) in
        let listed = (listed_iff ready i ns at k small).0 (eqb-true _ _ e) in
        let (then, many, holds, adds) =
        put.rows v odd start head m.extra
        (record {
          beside = view_beside ready fits are k v there table;
          first = first;
          last = sym m.many;
          holds = m.holds;
          wide = λ x j. marked_width (m.only x j);
        })
        in
        marked_more m l p v there (listed_granted ready i ns at k there listed) then many holds adds

  -- every view of the table is passed
  pub so_far_all : {out : List ℕ} {count : ℕ} → count ≤ from + most_views → MarkedSoFar base r i cells from before 0 out count
      → MarkedPut base r i cells from before out count
  so_far_all most so_far d t ns odd ready at fits are start head first h =
      marked_all (partition_known ready i ns at) (ready.bits odd.table fits.first (fits_table ready.good fits))
      (omega (arith, most, first)) (so_far d t ns odd ready at fits are start head first h)
