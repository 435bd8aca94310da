-- The lines at the bits of a word, frozen and written one by one behind a row.
use mathlib.Core.Path.{◌≡◌, refl, sym, ap, subst, ◌∙◌}
use mathlib.Core.Bool.{true, false, cond}
use mathlib.Core.List.{List, [], ◌∷◌, ◌++◌, map, map-append, append-nil}
use Prim.Native.Nat.{ℕ, suc, ◌+◌, ◌≤◌, ◌<◌}
use native.Mathlib.Omega.{arith}
use lib.ListN.{length, take, length-append, length-map}
use lib.Seq.{take_all}
use Rattle.theory.specs.Query.{Line, Query}
use Rattle.theory.specs.Archive.{Row, value}
use Rattle.theory.proofs.Determine.Block.{frozen_row}
use Rattle.words.specs.Bits.{is_set}
use Rattle.entering.specs.Agree.{line_at}
use Rattle.entering.specs.Left.{pick, lines_at}
use Rattle.entering.proofs.Left.{pick_more}
use Rattle.freezing.specs.Cells.{cells_of}
use Rattle.freezing.specs.Rows.{HasLine}
use Rattle.apart.specs.Buffer.{PutAt, Narrow, Holds}
use Rattle.apart.proofs.Rows.{holds_more}

-- a line within the limits is a row within them
pub frozen_narrow : (base : ℕ) {lines : List ℕ} {i : ℕ} {A : Line} → HasLine lines i A → Narrow (frozen_row base A)
frozen_narrow base {A = A} h =
    omega (arith, length-map A.columns (value (λ n. base + n) (λ n. base + n)), h.columns)

-- the row, and behind it those of the first k lines that are at the bits of the word
abbrev pub frozen_lines : ℕ → ℕ → Query → Row → ℕ → List Row
frozen_lines base others S odd k = odd ∷ map (frozen_row base) (pick (is_set others) (take k S))

-- what the next line adds
next : (base others : ℕ) (S : Query) (odd : Row) (k : ℕ) → k < length S
    → frozen_lines base others S odd (k + 1)
    ≡ frozen_lines base others S odd k ++ map (frozen_row base) (cond (is_set others k) (line_at S k ∷ []) [])
unfolding line_at
next base others S odd k h =
    let one : k + 1 ≡ suc k = omega arith in
    ap (frozen_lines base others S odd) one
    ∙ ap (λ (l : List Line). odd ∷ map (frozen_row base) l) (pick_more (record { table = 0; columns = [] }) (is_set others) S k h)
    ∙ ap (λ (l : List Row). odd ∷ l) (map-append (frozen_row base) (pick (is_set others) (take k S)) _)

-- as many rows as are counted, in the buffer
pub record LinesSome (base others : ℕ) (S : Query) (start : List ℕ) (odd : Row) (k : ℕ) (out : List ℕ) (count : ℕ) : Type 0 where
  pub many : count ≡ length (frozen_lines base others S odd k)
  pub holds : Holds start (frozen_lines base others S odd k) out

module _ {base others : ℕ} {S : Query} {start : List ℕ} {odd : Row} where
  pub lines_none : {out : List ℕ} → Holds start (odd ∷ []) out → LinesSome base others S start odd 0 out 1
  unfolding pick
  lines_none h = record { many = refl; holds = h }

  module _ {k : ℕ} {out : List ℕ} {count : ℕ} (l : LinesSome base others S start odd k out count) where
    pub lines_same : k < length S → is_set others k ≡ false → LinesSome base others S start odd (k + 1) out count
    lines_same h e =
        let same : frozen_lines base others S odd (k + 1) ≡ frozen_lines base others S odd k =
        next base others S odd k h ∙ rw e (append-nil _)
        in
        record { many = l.many ∙ ap length (sym same); holds = subst (λ (rows : List Row). Holds start rows out) (sym same) l.holds }

    pub lines_more : {lines after : List ℕ} (cells : List ℕ) → k < length S → is_set others k ≡ true → HasLine lines k (line_at S k)
        → cells ≡ cells_of (frozen_row base (line_at S k)) → PutAt count cells out after
        → LinesSome base others S start odd (k + 1) after (count + 1)
    lines_more {after = after} cells h e there are put =
        let x = frozen_row base (line_at S k) in
        let rows = frozen_lines base others S odd k in
        let more : frozen_lines base others S odd (k + 1) ≡ rows ++ x ∷ [] = next base others S odd k h ∙ rw e in
        record {
          many = omega (arith, l.many, ap length more, length-append rows (x ∷ []));
          holds =
              subst (λ (r : List Row). Holds start r after) (sym more)
              (holds_more l.holds x (frozen_narrow base there) (rw (← l.many, ← are) put));
        }

  pub lines_all : {k : ℕ} {out : List ℕ} {count : ℕ} → length S ≤ k → LinesSome base others S start odd k out count
      → (let rows = odd ∷ map (frozen_row base) (lines_at others S) in (count ≡ length rows) × Holds start rows out)
  unfolding lines_at
  lines_all {k} h l = let all = take_all k S h in (rw all at l.many, rw all at l.holds)
