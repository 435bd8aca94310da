-- The marked row of one view in the buffer: not there where the view does not match, not written again where it stands, written else.
use mathlib.Core.Path.{◌≡◌, refl, sym, subst, ◌∙◌}
use mathlib.Core.Bool.{Bool, true, false, false≢true}
use mathlib.Core.List.{List, [], ◌∷◌, ◌++◌, append_assoc}
use Prim.Native.Nat.{ℕ, ◌+◌}
use native.Mathlib.Nat.{le_refl}
use native.Mathlib.Omega.{arith}
use lib.ListN.{length, length-map, length-append}
use Rattle.theory.specs.Query.{Line, ◌∈◌}
use Rattle.theory.specs.Archive.{Row, value, row}
use Rattle.theory.proofs.Determine.Block.{mark_by}
use Rattle.freezing.specs.Cells.{cells_of}
use Rattle.freezing.specs.Rows.{MatchGiven, MarkedGiven}
use Rattle.apart.specs.Buffer.{PutAt, StandsBetween, Narrow, Holds}
use Rattle.apart.specs.Marking.{Adds, RowsBefore, ViewPut}
use Rattle.apart.proofs.Rows.{cells_one, holds_more, stands_in, in_stands}
use Rattle.apart.proofs.MarkedRows.{adds_none, adds_one}

-- the rows as they were, where there is nothing new
nothing_new : {base : ℕ} {r : List ℕ} {k : ℕ} {cells : List ℕ} {from count : ℕ} {before : List ℕ}
    → ((v : Line) (odd : Row) (start : List ℕ) (head extra : List Row) → RowsBefore r k cells from count before v odd start head extra
    → Adds base v odd extra extra)
    → ViewPut base r k cells from count before before count
nothing_new {count = count} adds = record {
  least = le_refl count;
  most = omega arith;
  rows = λ v odd start head extra b. (extra, sym b.last, b.holds, adds v odd start head extra b);
}

pub unmatched : {base : ℕ} {r : List ℕ} {k : ℕ} {cells : List ℕ} {from count : ℕ} {before : List ℕ} (m : Bool) → MatchGiven r k cells m
    → m ≡ false → ViewPut base r k cells from count before before count
unmatched m given e =
    nothing_new (λ v odd start head extra b.
    adds_none extra
    (λ s t same. absurd (false≢true (sym e ∙ (given v odd b.beside).said (record { s = s; h = t; same = same })))))

module _ (base : ℕ) (r : List ℕ) (k : ℕ) (cells : List ℕ) (from count : ℕ) (before marked : List ℕ) (stands : Bool)
    (is : MarkedGiven base r k cells marked) (found : StandsBetween before from count marked stands) where
  -- a valuation that turns the view into the odd row: whether the row that it makes with marks stands there
  module _ (v : Line) (odd : Row) (start : List ℕ) (head extra : List Row)
      (b : RowsBefore r k cells from count before v odd start head extra) (s t : ℕ → ℕ) (same : row s t v ≡ odd) where
    as_wide : (y : Row) → y ∈ extra → length y.columns ≡ length (row s (mark_by base v) v).columns
    as_wide y m = b.wide y m ∙ sym b.beside.width ∙ sym (length-map v.columns (value s (mark_by base v)))

    there : StandsBetween before from count (cells_of (row s (mark_by base v) v)) stands
    there = subst (λ (l : List ℕ). StandsBetween before from count l stands) (is v odd b.beside s t same) found

    it_stands : stands ≡ true → row s (mark_by base v) v ∈ extra
    it_stands = stands_in head extra b.holds (row s (mark_by base v) v) as_wide b.first b.last there

    it_is_said : row s (mark_by base v) v ∈ extra → stands ≡ true
    it_is_said = in_stands head extra b.holds (row s (mark_by base v) v) as_wide b.first b.last there

  pub standing : stands ≡ true → ViewPut base r k cells from count before before count
  standing e =
      nothing_new (λ v odd start head extra b. adds_none extra (λ s t same. it_stands v odd start head extra b s t same e))

  pub written : {after : List ℕ} (m : Bool) → MatchGiven r k cells m → m ≡ true → stands ≡ false → PutAt count marked before after
      → ViewPut base r k cells from count before after (count + 1)
  written {after} m given e new put = record {
    least = omega arith;
    most = le_refl (count + 1);
    rows = λ v odd start head extra b.
        let q = (given v odd b.beside).matches e in
        let mark = mark_by base v in
        let x = row q.s mark v in
        let are = is v odd b.beside in
        let narrow : Narrow x = omega (arith, b.beside.columns, length-map v.columns (value q.s mark)) in
        let at : PutAt (length (head ++ extra)) (cells_of x) before after = rw (b.last, ← are q.s q.h q.same) put in
        let one : (s t : ℕ → ℕ) → row s t v ≡ odd → row s mark v ≡ x =
        λ s t same.
        cells_one (row s mark v) x (length-map v.columns (value s mark) ∙ sym (length-map v.columns (value q.s mark)))
        (sym (are s t same) ∙ are q.s q.h q.same)
        in
        let more : head ++ extra ++ x ∷ [] ≡ head ++ (extra ++ x ∷ []) = append_assoc head extra (x ∷ []) in (
          extra ++ x ∷ [],
          rw (← more) (omega (arith, b.last, length-append (head ++ extra) (x ∷ []))),
          subst (λ (l : List Row). Holds start l after) more (holds_more b.holds x narrow at),
          adds_one extra q x refl one (λ i. false≢true (sym new ∙ it_is_said v odd start head extra b q.s q.h q.same i)),
        );
  }
