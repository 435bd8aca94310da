-- Rows one behind the other at the head of a buffer: one more, the row at a place, and whether a row stands there.
use mathlib.Core.Path.{◌≡◌, refl, sym, ap, ap₂, subst, ◌∙◌}
use mathlib.Core.Bool.{Bool, true}
use mathlib.Core.Logic.{⊎_elim}
use mathlib.Core.List.Memᴰ
use mathlib.Core.List.{List, [], ◌∷◌, ◌++◌, append_assoc, append-nil}
use mathlib.Core.Option.{some, some-injective}
use Prim.Native.Nat.{ℕ, zero, suc, ◌+◌, ◌-◌, ◌*◌, ◌≤◌}
use native.Mathlib.Omega.{arith}
use lib.ListN.{length, get_elem?, take, drop, length-append, length-drop}
use lib.Seq.{take_at, drop-append-add, drop-drop}
use Rattle.theory.specs.Query.{◌∈◌}
use Rattle.theory.specs.Archive.{Row}
use Rattle.theory.proofs.Lists.{none≢some, place, at_place, place_below, below_place}
use Rattle.theory.proofs.Tuples.{tuple_path}
use Rattle.model.specs.Limits.{most_columns}
use Rattle.model.specs.Value.{pad}
use Rattle.model.proofs.Pad.{pad_take}
use Rattle.freezing.specs.Cells.{row_cells, cells_of, all_cells}
use Rattle.freezing.proofs.RowCells.{cells_long}
use Rattle.label_lists.specs.Buffer.{headed}
use Rattle.apart.specs.Archives.{most_rows, most_cells}
use Rattle.apart.specs.Buffer.{cells_at, PutAt, StandsBetween, Narrow, Holds}

-- ---- the cells of rows

-- rows of one width are the same where their cells are
pub cells_one : (x y : Row) → length x.columns ≡ length y.columns → cells_of x ≡ cells_of y → x ≡ y
unfolding cells_of
cells_one x y w e =
    let table : x.table ≡ y.table = cc in
    let padded : pad most_columns 0 x.columns ≡ pad most_columns 0 y.columns = cc in
    tuple_path table
    (sym (pad_take most_columns 0 x.columns) ∙ ap₂ take w padded ∙ pad_take most_columns 0 y.columns)

abbrev AllNarrow : List Row → Type 0
AllNarrow rows = (x : Row) → x ∈ rows → Narrow x

length_all : (rows : List Row) → AllNarrow rows → length (all_cells rows) ≡ length rows * row_cells
unfolding all_cells
length_all [] h = refl
length_all (x ∷ rows) h =
    length-append (cells_of x) (all_cells rows)
    ∙ omega (arith, cells_long x (h x (Memᴰ.head refl)), length_all rows (λ y m. h y (Memᴰ.tail m)))

all_append : (k l : List Row) → all_cells (k ++ l) ≡ all_cells k ++ all_cells l
unfolding all_cells
all_append [] l = refl
all_append (x ∷ k) l = ap (λ (m : List ℕ). cells_of x ++ m) (all_append k l) ∙ sym (append_assoc (cells_of x) (all_cells k) (all_cells l))

all_one : (x : Row) → all_cells (x ∷ []) ≡ cells_of x
unfolding all_cells
all_one x = append-nil (cells_of x)

-- the cells at a place are those of the row there, whatever stands behind the rows
row_at : (rows : List Row) (behind : List ℕ) (k : ℕ) (x : Row) → AllNarrow rows → get_elem? rows k ≡ some x
    → cells_at (all_cells rows ++ behind) k ≡ cells_of x
unfolding all_cells
row_at [] behind k x h e = absurd (none≢some e)
row_at (y ∷ rows) behind zero x h e =
    ap (take row_cells) (append_assoc (cells_of y) (all_cells rows) behind)
    ∙ take_at (cells_of y) (all_cells rows ++ behind) row_cells (cells_long y (h y (Memᴰ.head refl)))
    ∙ ap cells_of (some-injective y x e)
row_at (y ∷ rows) behind (suc k) x h e =
    let rest = all_cells rows ++ behind in
    let next : suc k * row_cells ≡ length (cells_of y) + k * row_cells =
    omega (arith, cells_long y (h y (Memᴰ.head refl)))
    in
    ap₂ (λ (l : List ℕ) (n : ℕ). take row_cells (drop n l)) (append_assoc (cells_of y) (all_cells rows) behind) next
    ∙ ap (take row_cells) (drop-append-add (cells_of y) rest (k * row_cells))
    ∙ row_at rows behind k x (λ z m. h z (Memᴰ.tail m)) e

-- ---- rows in a buffer

pub holds_none : (start : List ℕ) → most_cells ≤ length start → Holds start [] start
unfolding all_cells
holds_none start w = record { wide = w; narrow = λ x m. absurd (Memᴰ.not-nil m); are = refl }

module _ {start : List ℕ} {rows : List Row} {out : List ℕ} (h : Holds start rows out) where
  pub holds_length : length rows ≤ most_rows → length out ≡ length start
  holds_length few =
      ap length h.are
      ∙ simp (length-append, length-drop) (omega (arith, length_all rows h.narrow, h.wide, few))

  pub cells_at_lem : (k : ℕ) (x : Row) → get_elem? rows k ≡ some x → cells_at out k ≡ cells_of x
  cells_at_lem k x e =
      ap (λ (l : List ℕ). cells_at l k) h.are ∙ row_at rows (drop (length (all_cells rows)) start) k x h.narrow e

  pub holds_more : (x : Row) {after : List ℕ} → Narrow x → PutAt (length rows) (cells_of x) out after → Holds start (rows ++ x ∷ []) after
  holds_more x n put = record {
    wide = h.wide;
    narrow = λ y m.
        ⊎_elim (λ a. h.narrow y a) (λ b. subst Narrow (sym (Memᴰ.eq_of_singleton b)) n) (Memᴰ.append_cases rows m);
    are = put ∙ ap₂ (λ (a b : List ℕ). a ++ cells_of x ++ b) before behind ∙ sym all;
  }
    where
      C : List ℕ
      C = all_cells rows

      rest : List ℕ
      rest = drop (length C) start

      long : length C ≡ length rows * row_cells
      long = length_all rows h.narrow

      before : take (length rows * row_cells) out ≡ C
      before = rw h.are (take_at C rest (length rows * row_cells) long)

      behind : drop (length rows * row_cells + row_cells) out ≡ drop (length C + row_cells) start
      behind =
          rw (h.are, ← long) (drop-append-add C rest row_cells ∙ drop-drop row_cells (length C) start)

      all : headed (all_cells (rows ++ x ∷ [])) start ≡ C ++ cells_of x ++ drop (length C + row_cells) start
      all =
          rw (all_append rows (x ∷ []), all_one x, length-append C (cells_of x), cells_long x n)

-- ---- whether a row stands behind some of them

-- what stands behind a list
behind_place : {X : Type 0} (k l : List X) (j : ℕ) → get_elem? (k ++ l) (length k + j) ≡ get_elem? l j
behind_place [] l j = let e : 0 + j ≡ j = omega arith in ap (get_elem? l) e
behind_place (x ∷ k) l j =
    let e : suc (length k) + j ≡ suc (length k + j) = omega arith in ap (get_elem? (x ∷ (k ++ l))) e ∙ behind_place k l j

module _ {start out : List ℕ} (head extra : List Row) (h : Holds start (head ++ extra) out) (x : Row)
    (alike : (y : Row) → y ∈ extra → length y.columns ≡ length x.columns) {from to : ℕ} (first : length head ≡ from)
    (last : length (head ++ extra) ≡ to) {b : Bool} (s : StandsBetween out from to (cells_of x) b) where
  pub stands_in : b ≡ true → x ∈ extra
  stands_in e =
      let (k, low, high, are) = s.stands e in
      let (y, at) = below_place (head ++ extra) k (rw last high) in
      let here : k ≡ length head + (k - length head) = omega (arith, low, first) in
      let there : get_elem? (head ++ extra) (length head + (k - length head)) ≡ some y = rw (← here) at in
      let m = at_place extra (k - length head) (sym (behind_place head extra (k - length head)) ∙ there) in
      Memᴰ.cast (sym (cells_one y x (alike y m) (sym (cells_at_lem h k y at) ∙ are))) m

  pub in_stands : x ∈ extra → b ≡ true
  in_stands m =
      let (j, at) = place m in
      let there = behind_place head extra j ∙ at in
      let below = place_below (head ++ extra) (length head + j) there in
      s.said (length head + j) (omega (arith, first)) (omega (arith, below, last)) (cells_at_lem h (length head + j) x there)
