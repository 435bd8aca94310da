-- The walk over the lines of an input: what has been passed, and how a line or the end goes on from there.
use mathlib.Core.Path.{◌≡◌, refl, sym, ap, ◌∙◌}
use mathlib.Core.Logic.{◌⊎◌, inl, inr, ⊎_elim, by_cases}
use mathlib.Core.Bool.{Bool, true, false, cond, ◌&&◌}
use mathlib.Core.List.{List, [], ◌∷◌, ◌++◌, append-nil}
use Prim.Native.Nat.{ℕ, ◌+◌, ◌≤◌, ◌<◌, zero-le}
use native.Mathlib.Decide.{dec_lt}
use native.Mathlib.Omega.{arith}
use lib.Dec.{T, ltb}
use lib.ListN.{length, take, drop, drop_of_length-le, take-append-drop}
use lib.Seq.{take_all, length-take-le, take-length, drop-length}
use borrow.Author.Tests.{ltb-true, ltb-false}
use Rattle.words.proofs.Answers.{both_true}
use Rattle.text.specs.Lines.{newline, lines, before, same_bytes}
use Rattle.text.specs.Names.{table_terms}
use Rattle.text.specs.declared.Cursor.{Cursor}
use Rattle.text.proofs.Lines.{before_le}
use Rattle.text.proofs.Names.{same_bytes_iff}
use Rattle.text.proofs.NextLines.{front, back, of_tail, of_line, LineAt}
use Rattle.cutting.specs.Cut.{piece, cut_from, cut}
use Rattle.cutting.specs.NextCut.{Starts, NextCut}
use Rattle.cutting.proofs.Line.{with_line}

-- ---- the definitions

-- the query texts of an input of which the bytes `now` of a query begun are passed
abbrev behind : List ℕ → List ℕ → List (List ℕ)
behind now text = cut_from now (lines text).ended (lines text).rest

behind_none : (now : List ℕ) → behind now [] ≡ piece now
unfolding lines cut_from
behind_none now = ap piece (append-nil now)

behind_tail : (now text : List ℕ) → before newline text ≡ length text → behind now text ≡ piece (now ++ text)
unfolding cut_from
behind_tail now text e = of_tail (cut_from now) text e

behind_line : (now text : List ℕ) → before newline text < length text
    → behind now text ≡ cond (same_bytes (front text) table_terms) (piece now ++ behind (front text ++ newline ∷ []) (back text))
    (behind (now ++ front text ++ newline ∷ []) (back text))
unfolding cut_from
behind_line now text h = of_line (cut_from now) text h

piece_some : (l : List ℕ) → 0 < length l → piece l ≡ l ∷ []
unfolding piece
piece_some [] h = absurd (omega arith)
piece_some (b ∷ l) h = refl

cut_behind : (s : List ℕ) → cut s ≡ behind [] s
unfolding cut
cut_behind s = refl

pub cut_none : cut [] ≡ []
unfolding cut lines cut_from piece
cut_none = refl

-- ---- the first line of the input, and a line that starts a query

-- the first line is part of the query whatever it says
first_line : (text : List ℕ) → before newline text < length text → behind [] text ≡ behind (front text ++ newline ∷ []) (back text)
unfolding piece
first_line text h = go (same_bytes (front text) table_terms) (behind_line [] text h)
  where
    go : (t : Bool) {x y : List (List ℕ)} → x ≡ cond t y y → x ≡ y
    go true e = e
    go false e = e

starting : (now text : List ℕ) → before newline text < length text → same_bytes (front text) table_terms ≡ true
    → behind now text ≡ piece now ++ cut text
starting now text h e =
    (rw e at (behind_line now text h)) ∙ ap (λ (l : List (List ℕ)). piece now ++ l) (sym (first_line text h) ∙ sym (cut_behind text))

going_on : (now text : List ℕ) → before newline text < length text → same_bytes (front text) table_terms ≡ false
    → behind now text ≡ behind (now ++ front text ++ newline ∷ []) (back text)
going_on now text h e = rw e at (behind_line now text h)

starts_query : (text : List ℕ) → before newline text < length text → same_bytes (front text) table_terms ≡ true → Starts text
unfolding table_terms
starts_query text h e =
    let t : T (same_bytes (front text) table_terms) = rw e tt in
    let n = ap length ((same_bytes_iff (front text) table_terms).0 t) in
    let k = length-take-le (before newline text) text (before_le newline text) in
    record { line = omega arith; ended = omega arith }

-- ---- a test of two that failed

one_of : (a b : Bool) → (a && b) ≡ false → (a ≡ false) ⊎ (b ≡ false)
one_of true b e = inr e
one_of false b e = inl refl

-- ---- what has been passed

-- the lines before the place `at` are bytes of the query begun, the first line of the input among them
pub record Walked (s : List ℕ) (at : ℕ) : Type 0 where
  pub within : at ≤ length s
  pub ahead : cut s ≡ behind (take at s) (drop at s)
  pub passed : 0 < at → before newline s < length s → before newline s < at

pub walked_none : (s : List ℕ) → Walked s 0
walked_none s = record { within = zero-le; ahead = cut_behind s; passed = λ h. absurd (omega arith) }

-- the whole of a text is its one query
whole : (s : List ℕ) → 0 < length s → cut s ≡ piece s → NextCut s (length s)
whole s h e =
    record {
      within = omega arith;
      some = h;
      pieces = e ∙ piece_some s h ∙ rw (take-length s, drop-length s, cut_none);
      line = λ l. l;
      starts = λ l. absurd (omega arith);
    }

module _ {s : List ℕ} {at : ℕ} (w : Walked s at) where
  -- the input stops in a line
  pub stops : 0 < length s → before newline (drop at s) ≡ length (drop at s) → NextCut s (length s)
  stops h e = whole s h (w.ahead ∙ behind_tail (take at s) (drop at s) e ∙ ap piece (take-append-drop at s))

  -- the input stops behind a line
  pub ends : 0 < length s → length s ≤ at → NextCut s at
  ends h l =
      let e : at ≡ length s = omega arith in
      let one : behind (take at s) (drop at s) ≡ piece s = rw (drop_of_length-le s l, take_all at s l) (behind_none s) in
      rw e (whole s h (w.ahead ∙ one))

  module _ {c : Cursor} (l : LineAt s at c) where
    -- a line that starts a query
    pub cuts : (ltb 0 at && same_bytes (front (drop at s)) table_terms) ≡ true → NextCut s at
    cuts e =
        let (a, b) = both_true _ _ e in
        let p = ltb-true 0 at a in
        let n = length-take-le at s w.within in
        record {
          within = w.within;
          some = p;
          pieces = w.ahead
              ∙ starting (take at s) (drop at s) l.ended b
              ∙ ap (λ (x : List (List ℕ)). x ++ cut (drop at s)) (piece_some (take at s) (omega arith));
          line = w.passed p;
          starts = λ h. starts_query (drop at s) l.ended b;
        }

    -- a line that is part of the query begun
    joins : (ltb 0 at && same_bytes (front (drop at s)) table_terms) ≡ false
        → behind (take at s) (drop at s) ≡ behind (take at s ++ front (drop at s) ++ newline ∷ []) (back (drop at s))
    joins e =
        ⊎_elim (λ (a : ltb 0 at ≡ false). let z : at ≡ 0 = omega (arith, ltb-false 0 at a) in
        let none : take at s ≡ [] = ap (λ (k : ℕ). take k s) z in
        rw none (first_line (drop at s) l.ended))
        (λ b. going_on (take at s) (drop at s) l.ended b)
        (one_of _ _ e)

    pub walked_more : (ltb 0 at && same_bytes (front (drop at s)) table_terms) ≡ false → Walked s (at + c.at)
    walked_more e =
        record {
          within = l.within;
          ahead = w.ahead ∙ joins e ∙ rw (with_line s at l.ended, ← l.behind, l.place);
          passed = λ p h. by_cases (dec_lt 0 at) (λ q. omega (arith, w.passed q h))
              (λ q. let z : at ≡ 0 = omega arith in
              let same : before newline (drop at s) ≡ before newline s = ap (λ (k : ℕ). before newline (drop k s)) z in
              omega arith);
        }
