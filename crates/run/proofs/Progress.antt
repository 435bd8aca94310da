-- The loop over the query texts: what is written so far, and the lines still to come.
use mathlib.Core.Path.{◌≡◌, refl, sym, ap, ◌∙◌}
use mathlib.Core.Logic.{by_cases}
use mathlib.Core.List.{List, [], ◌∷◌, ◌++◌, append_assoc, append-nil}
use Prim.Native.Nat.{ℕ, ◌+◌, ◌-◌, ◌*◌, ◌≤◌, ◌<◌, zero-le}
use native.Mathlib.Decide.{dec_lt}
use native.Mathlib.Numerals.{add-one}
use native.Mathlib.Omega.{arith}
use lib.ListN.{length, take, drop, length-drop, drop_of_length-le}
use lib.Seq.{drop-drop}
use Rattle.words.specs.Bits.{ones_below}
use Rattle.model.specs.declared.Tables.{Tables}
use Rattle.policy_text.specs.Declared.{Declared}
use Rattle.labelling.specs.Posed.{Ready}
use Rattle.sessions.specs.declared.opening.Session.{Session}
use Rattle.sessions.specs.declared.replies.Decision.{Decision}
use Rattle.sessions.specs.Deciding.{Verdict, decide_under, Gives}
use Rattle.writing.specs.Wrote.{Wrote}
use Rattle.writing.proofs.Wrote.{wrote_as, wrote_none, wrote_more}
use Rattle.cutting.specs.Cut.{cut}
use Rattle.cutting.specs.NextCut.{Starts, NextCut}
use Rattle.cutting.proofs.Walk.{cut_none}
use Rattle.run.specs.Sizes.{least_query, line_long}
use Rattle.run.specs.Run.{reply_bytes, lines_from}
use Rattle.run.proofs.Line.{reply_line}

-- the query of this number starts at the place `at` and finds the session s, and its line goes to the place `to`; a query but the
-- first has the bytes of its names line at least, and a line of the output has its most bytes
pub record Progress (tables : Tables) (made queries was : List ℕ) (start : ℕ) (opened : Session) (is : List ℕ) (s : Session)
    (query at to : ℕ) : Type 0 where
  pub within : at ≤ length queries
  pub some : 1 ≤ query
  pub few : query * least_query ≤ at + (2 * least_query - 1)
  pub room : to + line_long ≤ start + query * line_long
  pub starts : 1 < query → at < length queries → Starts (drop at queries)
  pub so_far : List ℕ
  pub wrote : Wrote was start so_far is to
  pub to_come : (d : Declared) → Ready d tables made
      → so_far ++ lines_from d s query (cut (drop at queries)) ≡ lines_from d opened 1 (cut queries)

pub progress_none : (tables : Tables) (made queries was : List ℕ) (start : ℕ) (opened : Session)
    → Progress tables made queries was start opened was opened 1 0 start
progress_none tables made queries was start opened =
    record {
      within = zero-le;
      some = omega arith;
      few = omega arith;
      room = omega arith;
      starts = λ h. absurd (omega arith);
      so_far = [];
      wrote = wrote_none was start;
      to_come = λ d l. refl;
    }

-- the line for a query, from the decision on it
line_of_lem : (query left : ℕ) (r : Decision) (o : Verdict) → Gives r o → left ≡ ones_below 64 r.session.mask
    → reply_line query r.reply left ≡ reply_bytes query o
unfolding reply_bytes
line_of_lem query left r o g e = rw (e, g.reply, g.session)

lines_more : (d : Declared) (s : Session) (query : ℕ) (text : List ℕ) (texts : List (List ℕ)) (r : Decision) (left : ℕ)
    → Gives r (decide_under d s text) → left ≡ ones_below 64 r.session.mask
    → lines_from d s query (text ∷ texts) ≡ reply_line query r.reply left ++ lines_from d r.session (query + 1) texts
unfolding lines_from
lines_more d s query text texts r left g e =
    rw (line_of_lem query left r (decide_under d s text) g e, g.session, add-one query)

module _ {tables : Tables} {made queries was : List ℕ} {start : ℕ} {opened : Session} {is : List ℕ} {s : Session} {query at to : ℕ}
    (w : Progress tables made queries was start opened is s query at to) where
  -- every query has its line
  pub progress_all : length queries ≤ at → (d : Declared) → Ready d tables made → Wrote was start (lines_from d opened 1 (cut queries)) is to
  unfolding lines_from
  progress_all h d l =
      wrote_as
      (sym (append-nil w.so_far)
      ∙ ap (λ (ts : List (List ℕ)). w.so_far ++ lines_from d s query ts) (sym (ap cut (drop_of_length-le queries h) ∙ cut_none))
      ∙ w.to_come d l)
      w.wrote

  module _ (n : ℕ) (c : NextCut (drop at queries) n) (more : at < length queries) where
    -- a query more, with at least a names line where it is not the first
    few_more : (query + 1) * least_query ≤ at + n + (2 * least_query - 1)
    few_more =
        by_cases (dec_lt 1 query)
        (λ h. let t = w.starts h more in omega (arith, w.few, c.line (omega (arith, t.line, t.ended)), t.line))
        (λ h. omega (arith, w.few, c.some))

    starts_more : at + n < length queries → Starts (drop (at + n) queries)
    starts_more h = rw drop-drop at (c.starts (omega (arith, length-drop at queries)))

    pub progress_more : (r : Decision) (left to' : ℕ) (is' : List ℕ)
        → ((d : Declared) → Ready d tables made → Gives r (decide_under d s (take n (drop at queries))))
        → left ≡ ones_below 64 r.session.mask
        → Wrote is to (reply_line query r.reply left) is' to' → to' ≤ to + line_long
        → Progress tables made queries was start opened is' r.session (query + 1) (at + n) to'
    progress_more r left to' is' g e v b =
        let line = reply_line query r.reply left in
        record {
          within = omega (arith, c.within, length-drop at queries);
          some = omega arith;
          few = few_more;
          room = omega (arith, w.room);
          starts = λ h. starts_more;
          so_far = w.so_far ++ line;
          wrote = wrote_more w.wrote v;
          to_come = λ d l.
              ap (λ (t : List ℕ). (w.so_far ++ line) ++ lines_from d r.session (query + 1) (cut t)) (sym (drop-drop n at queries))
              ∙ append_assoc w.so_far line (lines_from d r.session (query + 1) (cut (drop n (drop at queries))))
              ∙ ap (λ (x : List ℕ). w.so_far ++ x)
              (sym (lines_more d s query (take n (drop at queries)) (cut (drop n (drop at queries))) r left (g d l) e))
              ∙ ap (λ (ts : List (List ℕ)). w.so_far ++ lines_from d s query ts) (sym c.pieces)
              ∙ w.to_come d l;
        }
