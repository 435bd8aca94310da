-- What reading accepts is well read, and the text is that printed: an invariant of the walk over the lines.
use mathlib.Core.Path.{◌≡◌, refl, sym, ap, ap₂, ◌∙◌, subst}
use mathlib.Core.Bool.{Bool, true, false, cond, not}
use mathlib.Core.List.Memᴰ
use mathlib.Core.List.{List, [], ◌∷◌, ◌++◌, map, append-nil, append_assoc, map-append}
use mathlib.Core.Option.{Option, none, some}
use Prim.Native.Nat.{ℕ, zero, suc, ◌≤◌}
use native.Mathlib.Omega.{arith}
use lib.Dec.{T, leb, ltb, nleb→lt}
use lib.ListN.{length, length-append}
use mir.Facts.{T_not-not}
use borrow.Author.Tests.{ltb-false}
use Rattle.theory.specs.Query.{Line, Query, ◌∈◌, NoClash, Fits}
use Rattle.theory.specs.Archive.{AllFit}
use Rattle.text.specs.Lines.{lines, same_bytes}
use Rattle.text.specs.Names.{table_terms}
use Rattle.text.specs.Print.{end_each}
use Rattle.text.proofs.Each.{each_last}
use Rattle.text.proofs.Names.{same_bytes_iff}
use Rattle.text.proofs.Joined.{ended_lines}
use Rattle.model.specs.Fields.{query_line}
use Rattle.model.specs.Limits.{most_lines, line_within}
use Rattle.model.specs.Checks.{known, wide, clashing, first_fault}
use Rattle.model.specs.Print.{print_query_line}
use Rattle.model.proofs.Limits.{no_fault, checked_fits, clear_more}
use Rattle.model.proofs.ReadLines.{query_line_read}
use Rattle.query_text.specs.Text.{refused, accepted, most_query_bytes, fault, query_ends, judged, step, read_from, read_lines, read}
use Rattle.query_text.specs.Print.{query_text}
use Rattle.query_text.specs.WellRead.{WellRead}

-- the lines of a query so far
record SoFar (widths : List ℕ) (Q : Query) : Type 0 where
  few : length Q ≤ most_lines
  terms : (A : Line) → A ∈ Q → 1 ≤ length A.columns
  within : (A : Line) → A ∈ Q → T (line_within A)
  fits : AllFit widths Q
  clear : NoClash Q

none_read : (widths : List ℕ) → SoFar widths []
none_read widths =
    record {
      few = omega arith;
      terms = λ A m. absurd (Memᴰ.not-nil m);
      within = λ A m. absurd (Memᴰ.not-nil m);
      fits = λ A m. absurd (Memᴰ.not-nil m);
      clear = λ n A B i. absurd (Memᴰ.not-nil i);
    }

-- a line with a term and without a fault may stand behind them
more_read : (widths : List ℕ) (earlier : List Line) (A : Line) → SoFar widths earlier → 1 ≤ length A.columns
    → fault widths earlier A ≡ 0 → SoFar widths (earlier ++ A ∷ [])
unfolding fault first_fault
more_read widths earlier A w t e =
    let a = no_fault (leb most_lines (length earlier)) 6 _ e in
    let b = no_fault (not (line_within A)) 1 _ a.1 in
    let c = no_fault (not (known widths A)) 3 _ b.1 in
    let d = no_fault (not (wide widths A)) 4 _ c.1 in
    let f = no_fault (clashing earlier A) 5 _ d.1 in
    let within = T_not-not (line_within A) b.0 in
    record {
      few = omega (arith, length-append earlier (A ∷ []), nleb→lt most_lines (length earlier) a.0);
      terms = each_last (λ B. 1 ≤ length B.columns) earlier A w.terms t;
      within = each_last (λ B. T (line_within B)) earlier A w.within within;
      fits =
          each_last (Fits widths) earlier A w.fits
          (checked_fits widths A within (T_not-not (known widths A) c.0) (T_not-not (wide widths A) d.0));
      clear = clear_more earlier A w.clear f.0;
    }

-- a text that is accepted with Q, of which ls and the tail are left behind the lines `earlier`
record Told (widths : List ℕ) (earlier : List Line) (ls : List (List ℕ)) (tail : List ℕ) (Q : Query) : Type 0 where
  nonempty : 1 ≤ length Q
  all : SoFar widths Q
  ended : tail ≡ []
  printed : map print_query_line earlier ++ ls ≡ map print_query_line Q

pub refused≢accepted : {n k : ℕ} {Q : Query} → refused n k ≡ accepted Q → ⊥
refused≢accepted e = let z : ◌≡◌ {A = ℕ} 0 1 = cc in omega arith

ends_told : (widths : List ℕ) (earlier : List Line) (k : ℕ) (tail : List ℕ) (Q : Query) → SoFar widths earlier
    → query_ends earlier k tail ≡ accepted Q → Told widths earlier [] tail Q
unfolding query_ends
ends_told widths earlier k (b ∷ tail) Q w h = absurd (refused≢accepted h)
ends_told widths [] k [] Q w h = absurd (refused≢accepted h)
ends_told widths (A ∷ earlier) k [] Q w h =
    let same : A ∷ earlier ≡ Q = cc in
    subst (Told widths (A ∷ earlier) [] []) same
    (record { nonempty = omega arith; all = w; ended = refl; printed = append-nil (map print_query_line (A ∷ earlier)) })

-- a line that is the next of the printed ones
line_told : {widths : List ℕ} (earlier : List Line) (A : Line) (l : List ℕ) {ls : List (List ℕ)} {tail : List ℕ} {Q : Query}
    → l ≡ print_query_line A → Told widths (earlier ++ A ∷ []) ls tail Q → Told widths earlier (l ∷ ls) tail Q
line_told earlier A l {ls} e t =
    record {
      nonempty = t.nonempty;
      all = t.all;
      ended = t.ended;
      printed =
          ap (λ (m : List ℕ). map print_query_line earlier ++ m ∷ ls) e
          ∙ sym (append_assoc (map print_query_line earlier) (print_query_line A ∷ []) ls)
          ∙ ap (λ (m : List (List ℕ)). m ++ ls) (sym (map-append print_query_line earlier (A ∷ [])))
          ∙ t.printed;
    }

from_told : (widths : List ℕ) (earlier : List Line) (k : ℕ) (ls : List (List ℕ)) (tail : List ℕ) (Q : Query) → SoFar widths earlier
    → read_from widths earlier k ls tail ≡ accepted Q → Told widths earlier ls tail Q
unfolding read_from step judged
from_told widths earlier k [] tail Q w h = ends_told widths earlier k tail Q w h
from_told widths earlier k (l ∷ ls) tail Q w h =
    by_line (query_line l) refl (λ A u. from_told widths (earlier ++ A ∷ []) (suc k) ls tail Q u) h
  where
    Rest : Type 0
    Rest =
        (A : Line) → SoFar widths (earlier ++ A ∷ []) → read_from widths (earlier ++ A ∷ []) (suc k) ls tail ≡ accepted Q
        → Told widths (earlier ++ A ∷ []) ls tail Q

    by_fault : (A : Line) (n : ℕ) → query_line l ≡ some A → fault widths earlier A ≡ n → Rest
        → judged n k (read_from widths (earlier ++ A ∷ []) (suc k) ls tail) ≡ accepted Q → Told widths earlier (l ∷ ls) tail Q
    by_fault A zero r e rest h =
        let (is, terms) = query_line_read l A r in
        line_told earlier A l is (rest A (more_read widths earlier A w terms e) h)
    by_fault A (suc n) r e rest h = absurd (refused≢accepted h)

    by_line : (o : Option Line) → query_line l ≡ o → Rest
        → step o k (fault widths earlier) (λ A. read_from widths (earlier ++ A ∷ []) (suc k) ls tail) ≡ accepted Q
        → Told widths earlier (l ∷ ls) tail Q
    by_line none r rest h = absurd (refused≢accepted h)
    by_line (some A) r rest h = by_fault A (fault widths earlier A) r refl rest h

-- the lines of an accepted text, its names line first
lines_told : (widths : List ℕ) (ls : List (List ℕ)) (tail : List ℕ) (Q : Query) → read_lines widths ls tail ≡ accepted Q
    → (1 ≤ length Q) × SoFar widths Q × (tail ≡ []) × (ls ≡ table_terms ∷ map print_query_line Q)
unfolding read_lines
lines_told widths [] tail Q h = absurd (refused≢accepted h)
lines_told widths (l ∷ ls) tail Q h = go (same_bytes l table_terms) (λ t. t) h
  where
    go : (named : Bool) → (T named → T (same_bytes l table_terms))
        → cond named (read_from widths [] 2 ls tail) (refused 1 1) ≡ accepted Q
        → (1 ≤ length Q) × SoFar widths Q × (tail ≡ []) × (l ∷ ls ≡ table_terms ∷ map print_query_line Q)
    go true n q =
        let t = from_told widths [] 2 ls tail Q (none_read widths) q in
        (t.nonempty, t.all, t.ended, ap₂ {C = List (List ℕ)} ◌∷◌ ((same_bytes_iff l table_terms).0 (n tt)) t.printed)
    go false n q = absurd (refused≢accepted q)

accepted_told : (widths text : List ℕ) (Q : Query) → read widths text ≡ accepted Q → WellRead widths Q × (text ≡ query_text Q)
unfolding read query_text
accepted_told widths text Q h = go (ltb most_query_bytes (length text)) refl h
  where
    go : (long : Bool) → ltb most_query_bytes (length text) ≡ long
        → cond long (refused 7 0) (read_lines widths (lines text).ended (lines text).rest) ≡ accepted Q
        → WellRead widths Q × (text ≡ query_text Q)
    go true long q = absurd (refused≢accepted q)
    go false long q =
        let (nonempty, w, tail, all) = lines_told widths (lines text).ended (lines text).rest Q q in
        let is : text ≡ query_text Q =
        sym (ended_lines text) ∙ ap₂ (λ (ls : List (List ℕ)) (r : List ℕ). end_each ls ++ r) all tail ∙ append-nil (query_text Q) in (
          record {
            nonempty = nonempty;
            few = w.few;
            terms = w.terms;
            within = w.within;
            fits = w.fits;
            clear = w.clear;
            short = subst (λ (l : List ℕ). length l ≤ most_query_bytes) is (ltb-false most_query_bytes (length text) long);
          },
          is,
        )

pub accepted_well_read : (widths text : List ℕ) (Q : Query) → read widths text ≡ accepted Q → WellRead widths Q
accepted_well_read widths text Q h = (accepted_told widths text Q h).0

pub accepted_printed : (widths text : List ℕ) (Q : Query) → read widths text ≡ accepted Q → text ≡ query_text Q
accepted_printed widths text Q h = (accepted_told widths text Q h).1
