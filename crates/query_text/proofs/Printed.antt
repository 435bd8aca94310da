-- A text reads to a query exactly when the query is well read and the text is the query printed.
use mathlib.Core.Path.{◌≡◌, refl, sym, ap, ◌∙◌, subst}
use mathlib.Core.Logic.{◌↔◌}
use mathlib.Core.List.Memᴰ
use mathlib.Core.List.{List, [], ◌∷◌, ◌++◌, map, append-nil, append_assoc}
use Prim.Native.Nat.{ℕ, suc, ◌≤◌, ◌<◌}
use native.Mathlib.Nat.{not-suc-le-zero}
use native.Mathlib.Omega.{arith}
use lib.Dec.{T}
use lib.Ieee.Bits.{is_true, is_false}
use lib.ListN.{length, length-append, length-map}
use borrow.Author.Tests.{lt-leb, le-leb, eq-eqb, le-ltb}
use Rattle.theory.specs.Query.{Line, Query, ◌∈◌, NoClash}
use Rattle.theory.specs.Archive.{AllFit}
use Rattle.text.specs.Lines.{lines, same_bytes}
use Rattle.text.specs.Names.{table_terms}
use Rattle.text.specs.Print.{end_each}
use Rattle.text.proofs.Each.{Each, each_cons, each_map}
use Rattle.text.proofs.Joined.{LineByte, joined_clean, table_terms_clean, lines_ended, ended_bytes, Within, length_ended}
use Rattle.model.specs.Limits.{most_lines, most_columns, up_to, line_within}
use Rattle.model.specs.Checks.{known, wide, clashing, first_fault}
use Rattle.model.specs.Print.{print_query_line, line_fields}
use Rattle.model.proofs.Limits.{clear_line, up_to_iff}
use Rattle.model.proofs.Printed.{query_line_bytes, line_clean, within_writable, query_line_printed, query_line_short}
use Rattle.model.proofs.Values.{width_is}
use Rattle.query_text.specs.Text.{accepted, most_query_bytes, fault, query_ends, judged, step, read_from, read_lines, read}
use Rattle.query_text.specs.Print.{query_text}
use Rattle.query_text.specs.WellRead.{WellRead}
use Rattle.query_text.proofs.Accepted.{accepted_well_read, accepted_printed}

-- ---- the lines of the text

lines_clean : (Q : Query) → Each (Each LineByte) (table_terms ∷ map print_query_line Q)
unfolding print_query_line
lines_clean Q =
    each_cons (Each LineByte) table_terms (map print_query_line Q) table_terms_clean
    (each_map (Each LineByte) print_query_line Q (λ A i. joined_clean (line_fields A) (line_clean A)))

lines_printed : (Q : Query) → lines (query_text Q) ≡ record { ended = table_terms ∷ map print_query_line Q; rest = [] }
unfolding query_text
lines_printed Q = lines_ended (table_terms ∷ map print_query_line Q) (lines_clean Q)

-- what is printed is bytes
pub query_text_bytes : (Q : Query) (x : ℕ) → x ∈ query_text Q → x < 256
unfolding query_text
query_text_bytes Q = ended_bytes (table_terms ∷ map print_query_line Q) (lines_clean Q)

-- ---- a text that is printed reads

module _ (widths : List ℕ) (Q : Query) (w : WellRead widths Q) where
  -- no check turns back a line of the query, behind some of its lines
  line_taken : (earlier : List Line) (A : Line) → length earlier < length Q → A ∈ Q → ((B : Line) → B ∈ earlier → B ∈ Q)
      → fault widths earlier A ≡ 0
  unfolding fault first_fault known wide
  line_taken earlier A few a others =
      let f = w.fits A a in
      rw (
        lt-leb most_lines (length earlier) (omega (arith, w.few)),
        is_true (line_within A) (w.within A a),
        le-leb A.table (length widths) f.last,
        eq-eqb (length A.columns) _ f.width,
        is_false (clashing earlier A) (clear_line Q earlier A w.clear a others),
      )

  lines_read : (l earlier : List Line) → earlier ++ l ≡ Q → (k : ℕ) → read_from widths earlier k (map print_query_line l) [] ≡ accepted Q
  unfolding read_from step judged
  lines_read [] earlier e k = go earlier (sym (append-nil earlier) ∙ e)
    where
      go : (R : Query) → R ≡ Q → query_ends R k [] ≡ accepted Q
      go [] q = absurd (not-suc-le-zero (subst (λ (R : Query). 1 ≤ length R) (sym q) w.nonempty))
      go (A ∷ R) q = ap accepted q
  lines_read (A ∷ l) earlier e k =
      let a : A ∈ Q = subst (A ∈◌) e (Memᴰ.append_right earlier (Memᴰ.head refl)) in
      let few : length earlier < length Q = rw (sym e) (simp length-append (omega arith)) in
      rw (
        query_line_printed A (within_writable A (w.within A a)) (w.terms A a),
        line_taken earlier A few a (λ B i. subst (B ∈◌) e (Memᴰ.append_left (A ∷ l) i)),
      )
      (lines_read l (earlier ++ A ∷ []) (append_assoc earlier (A ∷ []) l ∙ e) (suc k))

  pub text_reads : read widths (query_text Q) ≡ accepted Q
  unfolding read read_lines same_bytes table_terms
  text_reads =
      rw (le-ltb most_query_bytes (length (query_text Q)) w.short, lines_printed Q) (lines_read Q [] refl 2)

pub reads_exactly : (widths text : List ℕ) (Q : Query) → (read widths text ≡ accepted Q) ↔ (WellRead widths Q × (text ≡ query_text Q))
reads_exactly widths text Q = (
  λ e. (accepted_well_read widths text Q e, accepted_printed widths text Q e),
  λ r. ap (read widths) r.1 ∙ text_reads widths Q r.0,
)

-- ---- under tables of 1 to the most columns a query's text is never too long, and each of its lines has a term

module _ (widths : List ℕ) (narrow : (n : ℕ) → n ∈ widths → T (up_to most_columns n)) (Q : Query) (few : length Q ≤ most_lines)
    (within : (A : Line) → A ∈ Q → T (line_within A)) (fits : AllFit widths Q) where
  columns : (A : Line) → A ∈ Q → (1 ≤ length A.columns) × (length A.columns ≤ most_columns)
  columns A i = (up_to_iff most_columns (length A.columns)).0 (width_is (λ n. T (up_to most_columns n)) widths narrow A (fits A i))

  -- coarse bounds suffice: each numeral is taken to have the most digits
  pub query_short : length (query_text Q) ≤ most_query_bytes
  unfolding query_text end_each table_terms
  query_short =
      let each = each_map (Within query_line_bytes) print_query_line Q
      (λ A i. query_line_short A (within_writable A (within A i)) (columns A i).1) in
      let all = rw (length-map Q print_query_line) at (length_ended query_line_bytes (map print_query_line Q) each) in
      omega arith

  pub well_read : 1 ≤ length Q → NoClash Q → WellRead widths Q
  well_read nonempty clear =
      record {
        nonempty = nonempty;
        few = few;
        terms = λ A i. (columns A i).0;
        within = within;
        fits = fits;
        clear = clear;
        short = query_short;
      }
