-- The lines of a query before a place of an input: none, one more, and the query that they are where the text stops there.
use mathlib.Core.Path.{◌≡◌, sym, ap, ◌∙◌, subst}
use mathlib.Core.Bool.{false, true≢false}
use mathlib.Core.List.Memᴰ
use mathlib.Core.List.{List, [], ◌∷◌, ◌++◌, map, map-append, append_assoc}
use Prim.Native.Nat.{ℕ, ◌+◌, ◌≤◌, ◌<◌}
use native.Mathlib.Omega.{arith}
use lib.Bits.{bit_or}
use lib.Dec.{leb→le}
use lib.ListN.{length, get_or, set, length-append, length-map, get_or-append}
use lib.Seq.{get_or-append_seam, get_or-set_same}
use Rattle.theory.specs.Query.{Line, Query, shown, ◌∈◌, NoClash}
use Rattle.theory.proofs.Executable.Test.{all_iff}
use Rattle.words.specs.Sets.{meet}
use Rattle.words.proofs.Tests.{meet_iff}
use Rattle.text.specs.Lines.{newline}
use Rattle.text.specs.Names.{bytes, table_terms}
use Rattle.text.specs.Print.{end_each}
use Rattle.text.proofs.Each.{each_last}
use Rattle.text.proofs.Joined.{ended_parts}
use Rattle.model.specs.Limits.{most_columns, most_lines, last_variable, term_within}
use Rattle.model.specs.Print.{print_query_line}
use Rattle.model.specs.Rows.{LaidAt, LaidInto}
use Rattle.model.specs.Value.{pad, unused_line, line_value, query_value}
use Rattle.model.specs.Variables.{Marked}
use Rattle.model.specs.declared.Line.{Line as LineValue}
use Rattle.model.specs.declared.Query.{Query as QueryValue}
use Rattle.model.proofs.LaidTerms.{RowsTo, rows_none, rows_more}
use Rattle.model.proofs.Limits.{line_within_iff}
use Rattle.model.proofs.Pad.{pad_length}
use Rattle.model.proofs.Variables.{marked_none, marked_more}
use Rattle.model.proofs.Spaced.{line_bytes}
use Rattle.query_text.specs.Print.{query_text}
use Rattle.query_text.proofs.Printed.{well_read, text_reads}
use Rattle.query_text.proofs.Walk.{one_more}
use Rattle.cutting.specs.NextCut.{NextCut}
use Rattle.cutting.proofs.Walk.{Walked}
use Rattle.entering.specs.Agree.{line_at}
use Rattle.entering.proofs.LaidRows.{value_at}
use Rattle.scan.specs.Places.{Between, NumeralThere, WidthThere}
use Rattle.scan.specs.Scanned.{Widths, Scanned}
use Rattle.scan.specs.TermsAt.{TermsThere}
use Rattle.scan.specs.declared.numbers.Number.{Number}
use Rattle.scan.specs.declared.terms.Terms.{Terms}
use Rattle.scan.proofs.Places.{between_both}
use Rattle.scan.proofs.LinePlaces.{names_first, line_next}
use Rattle.scan.proofs.LentWidths.{Suits, suits_fits}

-- ---- the text of a query with a line more

text_more : (Q : Query) (A : Line) → query_text (Q ++ A ∷ []) ≡ query_text Q ++ (print_query_line A ++ newline ∷ [])
unfolding query_text end_each
text_more Q A =
    rw (map-append print_query_line Q (A ∷ [])) (ended_parts (table_terms ∷ map print_query_line Q) (print_query_line A ∷ []))

-- ---- the lines before a place

-- the query's text before the place is that of these lines, which q and the rows hold, and s and h are their variables
pub record LinesTo (lent input rows : List ℕ) (q : QueryValue) (s h at : ℕ) : Type 0 where
  pub lines : Query
  pub held : q ≡ query_value lines
  pub few : length lines ≤ most_lines
  pub suit : (A : Line) → A ∈ lines → Suits lent A
  pub marked : Marked lines s h
  pub laid : RowsTo (value_at lines) (length lines) rows
  pub text : Between input 0 at (query_text lines)
  pub walked : Walked input at

pub lines_none : {lent input rows : List ℕ} {q : QueryValue} {at : ℕ} → q ≡ query_value [] → Between input 0 at (table_terms ++ newline ∷ [])
    → LinesTo lent input rows q 0 0 at
unfolding query_text end_each
lines_none {rows = rows} e p =
    record {
      lines = [];
      held = e;
      few = omega arith;
      suit = λ A m. absurd (Memᴰ.not-nil m);
      marked = marked_none;
      laid = rows_none (value_at []) rows;
      text = p;
      walked = names_first p;
    }

-- ---- one more

-- a line in the place behind the others
abbrev pub with_line : QueryValue → LineValue → QueryValue
with_line q l = record { count = q.count + 1; lines = set q.lines q.count l }

module _ {lent input rows : List ℕ} {q : QueryValue} {s h at : ℕ} (w : LinesTo lent input rows q s h at) where
  pub counted : q.count ≡ length w.lines
  unfolding query_value
  counted = ap (λ (x : QueryValue). x.count) w.held

  pub counted_few : q.count ≤ most_lines
  counted_few = omega (arith, counted, w.few)

  -- the names line stands before the place
  pub past_names : 0 < at
  unfolding query_text end_each table_terms bytes
  past_names = omega (arith, w.text.long)

  held_long : length q.lines ≡ most_lines
  unfolding query_value
  held_long =
      ap (λ (x : QueryValue). length x.lines) w.held
      ∙ pad_length most_lines unused_line (map line_value w.lines) (simp length-map w.few)

  -- behind them stand a table's number and as many terms as that table has columns
  module _ (n : Number) (r : Terms) (width : ℕ) (table : NumeralThere input at n × (1 ≤ n.value))
      (columns : WidthThere lent n.value width) (few : width ≤ most_columns)
      (terms : TermsThere input n.end width r) (room : q.count < most_lines) where
    abbrev A : Line
    A = record { table = n.value; columns = terms.are }

    abbrev behind : Query
    behind = w.lines ++ A ∷ []

    -- the line that was read
    abbrev line : LineValue
    line = record { table = n.value; terms = r.terms }

    value : line ≡ line_value A
    unfolding line_value
    value = λ i. record { table = n.value; terms = terms.holds.held i }

    held_more : with_line q line ≡ query_value behind
    unfolding query_value
    held_more =
        let counts : q.count + 1 ≡ length behind = simp length-append (omega (arith, counted)) in
        let kept : (with_line q line).lines ≡ pad most_lines unused_line (map line_value behind)
        = rw (w.held, value) (one_more w.lines A (omega (arith, counted, room))) in
        λ i. record { count = counts i; lines = kept i }

    suits : Suits lent A
    suits =
        record {
          within = (line_within_iff A).1 ((table.1, columns.last), (all_iff term_within terms.are).0 terms.holds.within);
          some = rw terms.count columns.some;
          few = rw terms.count few;
          width = terms.count ∙ columns.is;
        }

    marks_more : Marked behind (bit_or s r.shown) (bit_or h r.hidden)
    marks_more = rw (terms.holds.shown_bits, terms.holds.hidden_bits) (marked_more w.lines A s h w.marked)

    there : Between input at r.end (print_query_line A ++ newline ∷ [])
    there = rw (line_bytes A, append_assoc) (between_both table.0.there terms.there)

    laid_more : {rows' : List ℕ} {l : LineValue} → l ≡ line → LaidInto l q.count rows rows'
        → RowsTo (value_at behind) (length behind) rows'
    unfolding line_at
    laid_more {rows'} {l} e laid =
        let none : Line = record { table = 0; columns = [] } in
        let long : length behind ≡ length w.lines + 1 = length-append w.lines (A ∷ []) in
        let into : LaidInto l (length w.lines) rows rows' = rw counted at laid in
        let last : l ≡ value_at behind (length w.lines) = e ∙ value ∙ ap line_value (sym (get_or-append_seam w.lines A [] none)) in
        let kept : RowsTo (value_at behind) (length w.lines) rows =
        λ j b. subst (λ (x : Line). LaidAt rows j (line_value x)) (sym (get_or-append w.lines (A ∷ []) none j b)) (w.laid j b) in
        rw long (rows_more (value_at behind) kept last into.before into.row)

    -- it stands in its place of the query, and was laid from there
    pub lines_more : {rows' : List ℕ} (d : LineValue) → LaidInto (get_or (with_line q line).lines q.count d) q.count rows rows'
        → LinesTo lent input rows' (with_line q line) (bit_or s r.shown) (bit_or h r.hidden) r.end
    lines_more d laid =
        let here : get_or (with_line q line).lines q.count d ≡ line
        = get_or-set_same q.lines q.count line d (rw held_long room) in
        record {
          lines = behind;
          held = held_more;
          few = simp length-append (omega (arith, counted, room));
          suit = each_last (Suits lent) w.lines A w.suit suits;
          marked = marks_more;
          laid = laid_more here laid;
          text = rw (text_more w.lines A) (between_both w.text there);
          walked = line_next A w.walked there;
        }

  -- ---- the text stops here

  clear : meet 64 s h ≡ false → NoClash w.lines
  unfolding term_within
  clear m n A B a b i j =
      let small = leb→le n last_variable (((line_within_iff A).0 (w.suit A a).within).1 (shown n) i) in
      let s_bit = (w.marked.shown_bits n small).1 (A, a, i) in
      let h_bit = (w.marked.hidden_bits n small).1 (B, b, j) in
      true≢false (sym ((meet_iff 64 s h).1 (n, omega (arith, small), s_bit, h_bit)) ∙ m)

  pub lines_scanned : {widths : List ℕ} → Widths lent widths → (q.count ≡ 0 → ⊥) → meet 64 s h ≡ false → NextCut input at
      → Scanned widths input (record { query = q; end = at }) rows
  lines_scanned {widths} lends some m cuts =
      let Q = w.lines in
      record {
        query = Q;
        value = w.held;
        reads =
            rw w.text.are
            (text_reads widths Q
            (well_read widths lends.narrow Q w.few (λ A i. (w.suit A i).within) (λ A i. suits_fits lends (w.suit A i))
            (omega (arith, counted, some)) (clear m)));
        cuts = cuts;
        laid = record { lines = w.few; columns = λ A i. (w.suit A i).few; row = w.laid };
      }
