-- A line of a query in its row: its table and width, the partitions that answer it, and the rows of a query shown.
use mathlib.Core.Path.{◌≡◌, sym, ap, ◌∙◌, subst}
use mathlib.Core.Bool.{true}
use mathlib.Core.List.{List, []}
use mathlib.Core.Option.{some, some-injective}
use Prim.Native.Nat.{ℕ, ◌+◌, ◌-◌, ◌≤◌, ◌<◌}
use native.Mathlib.Omega.{arith}
use lib.Dec.{T}
use lib.ListN.{length, get_or, get_elem?}
use borrow.Author.Tests.{eqb-true}
use Rattle.theory.specs.Query.{Term, Line, Query, over, ◌∈◌}
use Rattle.theory.specs.Archive.{AllFit}
use Rattle.theory.specs.Executable.Reduce.{reduce}
use Rattle.theory.specs.Executable.Show.{show_term, show}
use Rattle.theory.proofs.Lists.{at_place, place_below, there}
use Rattle.theory.proofs.Reduce.{reduced_fits}
use Rattle.theory.proofs.Executable.Reduce.{reduce_reduces}
use Rattle.theory.proofs.Executable.Show.{show_is_shown, shown_fits}
use Rattle.theory.proofs.Tuples.{get_d_mem, fits_over}
use Rattle.words.specs.Bits.{bit, is_set}
use Rattle.model.specs.Limits.{most_tables, most_columns}
use Rattle.model.specs.Rows.{laid_table, LaidAt}
use Rattle.model.specs.Value.{line_value}
use Rattle.model.specs.declared.Tables.{Tables}
use Rattle.policy_text.specs.Declared.{Declared}
use Rattle.model.proofs.Limits.{up_to_iff}
use Rattle.policy_text.specs.Policy.{grants_of}
use Rattle.policy_text.proofs.Grants.{grants_bit, good_below}
use Rattle.covering.specs.Prepared.{grant_word, table_width, Tabled}
use Rattle.covering.specs.Labelled.{Labelled, Reached}
use Rattle.entering.specs.Agree.{line_at}
use Rattle.entering.specs.Left.{lines_at}
use Rattle.entering.specs.Worded.{Worded, Given}
use Rattle.entering.specs.Showing.{SharedWord, show_value, show_line, ShownRows}
use Rattle.entering.proofs.Left.{in_lines, lines_subset}
use Rattle.entering.proofs.Lines.{laid_few}
use Rattle.entering.proofs.Shown.{shown_by, line_value_lem, line_shown}
use Rattle.entering.proofs.ShownTerms.{shown_term}
use Rattle.labelling.specs.Posed.{Ready, LineOf, PosedRows, Rows}
use Rattle.labelling.specs.Settled.{answers}
use Rattle.labelling.proofs.Granted.{covering_answers, answers_covering, Answering}

-- ---- a line

-- its table is one of the policy's, with the width that is prepared
module _ {d : Declared} {tables : Tables} {r : List ℕ} (ready : Ready d tables r) {lines : List ℕ} {i : ℕ} {A : Line}
    (l : LineOf d lines i A) where
  last_table : A.table ≤ most_tables
  last_table = omega (arith, l.fits.last, ready.good.tables.few)

  -- the columns of the table with number t
  width_is : (t : ℕ) → 1 ≤ t → t ≤ most_tables → table_width r t ≡ get_or d.widths (t - 1) 0
  width_is t from to =
      let next : 1 + (t - 1) ≡ t = omega (arith, from) in
      ap (table_width r) (sym next) ∙ ready.width (t - 1) (omega (arith, from, to))

  narrow : get_or d.widths (A.table - 1) 0 ≤ most_columns
  narrow =
      let m = get_d_mem d.widths (A.table - 1) 0 (omega (arith, l.fits.first, l.fits.last)) in
      ((up_to_iff most_columns _).0 (ready.good.tables.each _ m)).1

  pub line_tabled : Tabled r (laid_table lines i)
  unfolding line_value
  line_tabled =
      subst (Tabled r) (sym l.line.table)
      (record {
        last = last_table;
        views = ready.below A.table last_table;
        columns = rw (width_is A.table l.fits.first last_table) narrow;
      })

  pub line_labelled : Labelled r lines i d.views A
  line_labelled =
      let here = width_is A.table l.fits.first last_table in
      record {
        few = ready.good.views.few;
        laid = ready.laid;
        line = l.line;
        bits = ready.bits A.table l.fits.first last_table;
        line_width = l.fits.width ∙ sym here;
        view_widths = λ v m e.
            (ready.good.views.each v m).fits.width ∙ ap (λ (t : ℕ). get_or d.widths (t - 1) 0) e ∙ sym here;
        free = ready.free;
      }

-- a partition grants a view that covers the line exactly when one of its views does
pub answering : {d : Declared} {tables : Tables} {r : List ℕ} {A : Line} {w : ℕ} → Ready d tables r → Reached r d.views A w
    → Answering d A w
answering {d} {r = r} {A} {w} ready reached = record { bits = λ i ns at. (reaches i ns at, reached_by i ns at) }
  where
    -- the word of a view, and a partition that lists its number
    word : (k : ℕ) {v : Line} → get_elem? d.views k ≡ some v → grant_word r k ≡ grants_of d.partitions (k + 1)
    word k at = ready.grant k (omega (arith, place_below d.views k at, ready.good.views.few))

    reaches : (i : ℕ) (ns : List ℕ) → get_elem? d.partitions i ≡ some ns → bit w i ≡ 1 → T (answers d.views A ns)
    reaches i ns at e =
        let (k, v, there, c, g) = (reached i).0 e in
        let (ms, same, m) = (grants_bit d.partitions (k + 1) i).0 (ap (λ (x : ℕ). bit x i) (sym (word k there)) ∙ g) in
        let listed = subst (λ (l : List ℕ). k + 1 ∈ l) (some-injective ms ns (sym same ∙ at)) m in
        covering_answers d.views ns A (record { place = k; view = v; at = there; listed = listed; covering = c })

    reached_by : (i : ℕ) (ns : List ℕ) → get_elem? d.partitions i ≡ some ns → T (answers d.views A ns) → bit w i ≡ 1
    reached_by i ns at t =
        let known = good_below (length d.views) ns (ready.good.partitions.each ns (at_place d.partitions i at)) in
        let c = answers_covering d.views ns A known t in
        let g = (grants_bit d.partitions (c.place + 1) i).1 (ns, at, c.listed) in
        (reached i).1 (c.place, c.view, c.at, c.covering, ap (λ (x : ℕ). bit x i) (word c.place c.at) ∙ g)

-- ---- the lines of a query, shown

-- the lines that are labelled fit where the query does
pub labelled_fits : (widths : List ℕ) (Q : Query) → AllFit widths Q → AllFit widths (show (reduce Q))
labelled_fits widths Q f = shown_fits (show_is_shown (reduce Q)) (reduced_fits (reduce_reduces Q) f)

-- the line in row i, shown by a word
module _ {d : Declared} {Q : Query} {w : ℕ} {lines : List ℕ} (r : Rows d Q w lines) (i : ℕ) (h : i < length Q) where
  line_of_lem : (f : Term → Term) → show_line w (line_value (line_at Q i)) ≡ line_value (over f (line_at Q i))
      → LineOf d lines i (over f (line_at Q i))
  unfolding line_at
  line_of_lem f e = record {
    line = subst (LaidAt lines i) e (r.row i h);
    fits = fits_over f (line_at Q i) (r.fits (line_at Q i) (get_d_mem Q i _ h));
  }

  few : length (line_at Q i).columns ≤ most_columns
  unfolding line_at
  few = r.columns (line_at Q i) (get_d_mem Q i (record { table = 0; columns = [] }) h)

  -- whatever the word, it is a line of the tables
  pub some_line : LineOf d lines i (over (shown_by w) (line_at Q i))
  some_line = line_of_lem (shown_by w) (line_value_lem w (line_at Q i) few)

  -- with the word of the shared variables of the lines left, it is the line shown
  pub shown_line : (left : ℕ) → SharedWord (lines_at left Q) w → is_set left i ≡ true
      → LineOf d lines i (over (show_term (lines_at left Q)) (line_at Q i))
  shown_line left word e =
      let R = lines_at left Q in
      line_of_lem (show_term R)
      (line_shown R w word (λ A m. r.columns A (lines_subset left Q m)) (λ n A m. r.small n A (lines_subset left Q m))
      (line_at Q i) (in_lines left Q i h (eqb-true _ _ e)))

-- the rows of a query, and the words of its lines: under the tables of a policy lines of one table have one width
pub rows_given : {d : Declared} {Q : Query} {n : ℕ} {lines words : List ℕ} → PosedRows d Q n lines → Worded Q words
    → Given Q n lines words
rows_given {d} g w = record {
  count = g.count;
  laid = g.laid;
  worded = w;
  small = g.small;
  widths = λ A B a b e.
      (g.fits A a).width ∙ ap (λ (t : ℕ). get_or d.widths (t - 1) 0) e ∙ sym (g.fits B b).width;
}

-- the rows of a query laid out and then shown
pub rows_shown : {d : Declared} {Q : Query} {n : ℕ} {lines lines' : List ℕ} (w : ℕ) → PosedRows d Q n lines → ShownRows n lines w lines'
    → Rows d Q w lines'
unfolding show_line
rows_shown {Q = Q} w g s = let laid = g.laid in record {
  lines = laid.lines;
  columns = laid.columns;
  small = g.small;
  fits = g.fits;
  row = λ i h.
      record {
        table = s.table i ∙ (laid.row i h).table;
        term = λ p b.
            s.term i p (omega (arith, h, g.count)) b ∙ ap (show_value w) ((laid.row i h).term p b)
            ∙ sym (shown_term w (line_at Q i) (laid_few laid i h) p b);
      };
}
