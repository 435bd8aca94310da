-- The walk over the lines of values: what has been read, and how a line or the end of the text goes on from there.
use mathlib.Core.Path.{◌≡◌, refl, sym, ap, ◌∙◌}
use mathlib.Core.List.{List, [], ◌∷◌, ◌++◌, map, map-append}
use mathlib.Core.Option.{none, some}
use Prim.Native.Nat.{ℕ, zero, suc, ◌+◌, ◌≤◌, ◌<◌}
use native.Mathlib.Numerals.{add-one}
use native.Mathlib.Omega.{arith}
use lib.Bits.{bit_or}
use lib.ListN.{length, drop, set, length-append, length-map, length-drop, drop_of_length-le}
use Rattle.theory.specs.Query.{Line}
use Rattle.text.specs.Lines.{newline, lines, before}
use Rattle.text.specs.declared.Cursor.{Cursor}
use Rattle.text.proofs.NextLines.{front, back, of_tail, of_line, LineAt}
use Rattle.model.specs.Limits.{most_lines}
use Rattle.model.specs.Fields.{query_line}
use Rattle.model.specs.Value.{pad, unused_line, line_value, query_value, tables_value}
use Rattle.model.specs.Parsed.{good_value}
use Rattle.model.specs.declared.Tables.{Tables}
use Rattle.model.specs.declared.Parsed.{Parsed}
use Rattle.model.specs.declared.Query.{Query as QueryValue}
use Rattle.std.specs.Prelude.{Ok}
use Rattle.model.proofs.Pad.{pad_more}
use Rattle.query_text.specs.Text.{Reading, refused, fault, query_ends, judged, step, read_from}
use Rattle.model.specs.Variables.{Marked}
use Rattle.query_text.specs.Value.{reading_value}
use Rattle.model.proofs.Variables.{marked_none, marked_more}

-- ---- the definitions

-- the reading of a text from line k on, behind the lines `earlier`
abbrev pub behind : List ℕ → List Line → ℕ → List ℕ → Reading
behind widths earlier k text = read_from widths earlier k (lines text).ended (lines text).rest

-- a tail that lacks its end
behind_tail : (widths : List ℕ) (earlier : List Line) (k : ℕ) (text : List ℕ) → before newline text ≡ length text → 0 < length text
    → behind widths earlier k text ≡ refused 1 k
unfolding read_from query_ends
behind_tail widths earlier k [] e h = absurd (omega arith)
behind_tail widths earlier k (b ∷ tail) e h = of_tail (read_from widths earlier k) (b ∷ tail) e

-- the end of the text
behind_end : (widths : List ℕ) (earlier : List Line) (k : ℕ) → behind widths earlier k [] ≡ query_ends earlier k []
unfolding lines read_from
behind_end widths earlier k = refl

-- a line, and what follows it
behind_line : (widths : List ℕ) (earlier : List Line) (k : ℕ) (text : List ℕ) → before newline text < length text
    → behind widths earlier k text
    ≡ step (query_line (front text)) k (fault widths earlier) (λ A. behind widths (earlier ++ A ∷ []) (suc k) (back text))
unfolding read_from
behind_line widths earlier k text h = of_line (read_from widths earlier k) text h

-- a line more in the query
abbrev pub with_line : QueryValue → Parsed → QueryValue
with_line q p = record { count = q.count + 1; lines = set q.lines q.count (record { table = p.table; terms = p.terms }) }

pub one_more : (earlier : List Line) (A : Line) → length earlier < most_lines
    → set (pad most_lines unused_line (map line_value earlier)) (length earlier) (line_value A)
    ≡ pad most_lines unused_line (map line_value (earlier ++ A ∷ []))
one_more earlier A h =
    let l = map line_value earlier in
    let n = length-map earlier line_value in
    ap (λ (k : ℕ). set (pad most_lines unused_line l) k (line_value A)) (sym n)
    ∙ pad_more most_lines unused_line l (line_value A) (omega (arith, n))
    ∙ ap (pad most_lines unused_line) (sym (map-append line_value earlier (A ∷ [])))

-- ---- what has been read

-- the lines `earlier` have been read, line number `line` starts at the place `at`, and reading the rest gives what reading
-- the text from its first line, number `start`, gives
pub record Walked (tables : Tables) (text : List ℕ) (start : ℕ) (q : QueryValue) (s h line at : ℕ) : Type 0 where
  pub earlier : List Line
  pub held : q ≡ query_value earlier
  pub marked : Marked earlier s h
  pub number : line ≡ start + length earlier
  pub few : length earlier ≤ most_lines
  pub within : at ≤ length text
  pub ahead : (widths : List ℕ) → tables ≡ tables_value widths → behind widths earlier line (drop at text) ≡ behind widths [] start text

pub walked_none : (tables : Tables) (text : List ℕ) (start : ℕ) (q : QueryValue) → q ≡ query_value []
    → Walked tables text start q 0 0 start 0
walked_none tables text start q e =
    record {
      earlier = [];
      held = e;
      marked = marked_none;
      number = omega arith;
      few = omega arith;
      within = omega arith;
      ahead = λ widths t. refl;
    }

module _ {tables : Tables} {text : List ℕ} {start : ℕ} {q : QueryValue} {s h line at : ℕ} (w : Walked tables text start q s h line at) where
  pub counted : q.count ≡ length w.earlier
  unfolding query_value
  counted = ap (λ (x : QueryValue). x.count) w.held

  -- the text stops in a line
  pub stops : (widths : List ℕ) → tables ≡ tables_value widths → at < length text → before newline (drop at text) ≡ length (drop at text)
      → refused 1 line ≡ behind widths [] start text
  stops widths t l e =
      sym (behind_tail widths w.earlier line (drop at text) e (simp length-drop (omega arith))) ∙ w.ahead widths t

  -- the text stops behind its last line
  module _ (widths : List ℕ) (t : tables ≡ tables_value widths) (l : length text ≤ at) where
    ended : query_ends w.earlier line [] ≡ behind widths [] start text
    ended =
        sym (behind_end widths w.earlier line)
        ∙ ap (behind widths w.earlier line) (sym (drop_of_length-le text l))
        ∙ w.ahead widths t

    pub empty : q.count ≡ 0 → refused 1 line ≡ behind widths [] start text
    unfolding query_ends
    empty z = go w.earlier (sym counted ∙ z) ended
      where
        go : (Q : List Line) → length Q ≡ 0 → query_ends Q line [] ≡ behind widths [] start text
            → refused 1 line ≡ behind widths [] start text
        go [] n e = e
        go (A ∷ Q) n e = absurd (omega arith)

    pub done : (q.count ≡ 0 → ⊥) → Ok q ≡ reading_value (behind widths [] start text)
    unfolding query_ends reading_value
    done f = go w.earlier w.held (λ z. f (counted ∙ z)) ended
      where
        go : (Q : List Line) → q ≡ query_value Q → (length Q ≡ 0 → ⊥) → query_ends Q line [] ≡ behind widths [] start text
            → Ok q ≡ reading_value (behind widths [] start text)
        go [] v n e = absurd (n refl)
        go (A ∷ Q) v n e = rw v (ap reading_value e)

  -- a line that ends
  module _ {c : Cursor} (l : LineAt text at c) where
    turn : (widths : List ℕ) → tables ≡ tables_value widths
        → step (query_line (front (drop at text))) line (fault widths w.earlier)
        (λ A. behind widths (w.earlier ++ A ∷ []) (suc line) (back (drop at text)))
        ≡ behind widths [] start text
    turn widths t = sym (behind_line widths w.earlier line (drop at text) l.ended) ∙ w.ahead widths t

    pub wrong : query_line (front (drop at text)) ≡ none → (widths : List ℕ) → tables ≡ tables_value widths
        → refused 1 line ≡ behind widths [] start text
    unfolding step
    wrong e widths t = rw e at (turn widths t)

    module _ (A : Line) (e : query_line (front (drop at text)) ≡ some A) where
      pub faulty : (f : ℕ) → (f ≡ 0 → ⊥) → (widths : List ℕ) → tables ≡ tables_value widths → f ≡ fault widths w.earlier A
          → refused f line ≡ behind widths [] start text
      unfolding step judged
      faulty zero n widths t g = absurd (n refl)
      faulty (suc f) n widths t g = rw (e, ← g) at (turn widths t)

      module _ (p : Parsed) (good : p ≡ good_value A.table A.columns) (room : length w.earlier < most_lines) where
        held_more : with_line q p ≡ query_value (w.earlier ++ A ∷ [])
        unfolding query_value line_value good_value
        held_more =
            let counts : q.count + 1 ≡ length (w.earlier ++ A ∷ []) = simp length-append (omega (arith, counted)) in
            let kept : (with_line q p).lines ≡ pad most_lines unused_line (map line_value (w.earlier ++ A ∷ []))
            = rw (w.held, good) (one_more w.earlier A room) in
            λ i. record { count = counts i; lines = kept i }

        marks_more : Marked (w.earlier ++ A ∷ []) (bit_or s p.shown) (bit_or h p.hidden)
        unfolding good_value
        marks_more = rw good (marked_more w.earlier A s h w.marked)

        ahead_more : (widths : List ℕ) → tables ≡ tables_value widths → 0 ≡ fault widths w.earlier A
            → behind widths (w.earlier ++ A ∷ []) (line + 1) (drop (at + c.at) text) ≡ behind widths [] start text
        unfolding step judged
        ahead_more widths t g = rw (add-one line, l.behind) (rw (e, ← g) at (turn widths t))

        -- a line without a fault
        pub walked_more : {next : ℕ} → next ≡ line + 1 → ((widths : List ℕ) → tables ≡ tables_value widths → 0 ≡ fault widths w.earlier A)
            → Walked tables text start (with_line q p) (bit_or s p.shown) (bit_or h p.hidden) next (at + c.at)
        walked_more n g =
            record {
              earlier = w.earlier ++ A ∷ [];
              held = held_more;
              marked = marks_more;
              number = omega (arith, n, w.number, length-append w.earlier (A ∷ []));
              few = omega (arith, length-append w.earlier (A ∷ []));
              within = l.within;
              ahead = λ widths t. rw n (ahead_more widths t (g widths t));
            }
