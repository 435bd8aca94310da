-- A view under the tables of a policy, by its table and its terms.
use mathlib.Core.Path.{◌≡◌, sym, ap, ◌∙◌}
use mathlib.Core.Logic.Iff
use mathlib.Core.Logic.{◌↔◌}
use mathlib.Core.Bool.{Bool, true, false}
use mathlib.Core.List.{List, [], map}
use Prim.Native.Nat.{ℕ, ◌-◌, ◌≤◌, ◌<◌}
use native.Mathlib.Omega.{arith}
use lib.ListN.{length, get_or, take, length-map}
use lib.Seq.{take_all}
use Rattle.theory.specs.Query.{Line as TheLine}
use Rattle.model.specs.Limits.{most_tables, most_columns, most_views}
use Rattle.model.specs.Checks.{known, wide}
use Rattle.model.specs.Value.{pad, unused_term, term_value, terms_value, unused_line, line_value, tables_value}
use Rattle.model.specs.declared.Line.{Line}
use Rattle.model.specs.declared.Tables.{Tables}
use Rattle.model.specs.declared.Term.{Term}
use Rattle.policy_text.specs.WellFormed.{GoodView, GoodWidth}
use Rattle.model.proofs.Limits.{line_within_iff}
use Rattle.validity.specs.Parts.{ValueOf, TablesOf, TermsHeld, ViewOf, ViewPlace, ViewsHeld}
use Rattle.validity.specs.Entries.{TablePlace, WidthFor, of_view_lem, of_none, of_wrong, TermsFor}
use Rattle.model.proofs.Pad.{pad_get}
use Rattle.validity.proofs.Held.{Checked, checked_default, checked_held, held_checked, held_length, place_used}
use Rattle.validity.proofs.Tables.{width_iff, tables_checked}
use Rattle.validity.proofs.Lines.{unused_table, terms_unused, terms_held}
use Rattle.validity.proofs.Clash.{apart_iff}

-- no more terms than a line holds are all kept
kept : (l : List Term) → length l ≤ most_columns → pad most_columns unused_term (take most_columns l) ≡ pad most_columns unused_term l
kept l h = ap (pad most_columns unused_term) (take_all most_columns l h)

module _ (widths : List ℕ) (t : Tables) (tables : TablesOf widths t) where
  pub tables_few : t.count ≤ most_tables
  tables_few = (tables_checked t (widths, tables)).counted.1

  tables_count : t.count ≡ length widths
  unfolding tables_value
  tables_count = ap (λ (s : Tables). s.count) tables.is

  tables_width : (k : ℕ) → get_or t.columns k 0 ≡ get_or widths k 0
  unfolding tables_value
  tables_width k = ap (λ (s : Tables). get_or s.columns k 0) tables.is ∙ pad_get most_tables 0 widths k

  width_within : (k : ℕ) → k < t.count → (1 ≤ get_or t.columns k 0) × (get_or t.columns k 0 ≤ most_columns)
  width_within k h =
      let c = tables_checked t (widths, tables) in
      (width_iff (get_or t.columns k 0)).0
      (place_used (ValueOf GoodWidth (λ w. w)) 0 k t.count h (c.places k (omega (arith, c.counted.1))))

  module _ (l : Line) where
    view_table : ViewOf widths l → (1 ≤ l.table) × (l.table ≤ t.count)
    unfolding known line_value
    view_table v =
        let A = v.thing in
        let same = ap (λ (x : Line). x.table) v.is in
        (omega (arith, same, v.good.fits.first), omega (arith, same, v.good.fits.last, tables_count))

    terms_view : 1 ≤ l.table → l.table ≤ t.count → TermsHeld (get_or t.columns (l.table - 1) 0) l.terms → ViewOf widths l
    unfolding known wide line_value terms_value
    terms_view some last d =
        let A : TheLine = record { table = l.table; columns = d.held.things } in
        let terms = d.held.is ∙ sym (kept (map term_value A.columns) (rw length-map d.held.listed.few)) in
        record {
          thing = A;
          good =
              record {
                within = (line_within_iff A).1 ((some, omega (arith, tables_few)), d.held.listed.each);
                fits =
                    record {
                      first = some;
                      last = omega (arith, tables_count);
                      width = sym d.held.count ∙ tables_width (l.table - 1);
                    };
                clear = (apart_iff A).1 d.clear;
              };
          is = λ i. record { table = l.table; terms = terms i };
        }

    view_terms : ViewOf widths l → TermsHeld (get_or t.columns (l.table - 1) 0) l.terms
    unfolding wide line_value terms_value
    view_terms v =
        let A = v.thing in
        let at = view_table v in
        let same : l.table ≡ A.table = ap (λ (x : Line). x.table) v.is in
        let w = width_within (l.table - 1) (omega (arith, at.0, at.1)) in
        let count : get_or t.columns (l.table - 1) 0 ≡ length A.columns =
        tables_width (l.table - 1) ∙ ap (λ (k : ℕ). get_or widths (k - 1) 0) same ∙ sym v.good.fits.width
        in
        record {
          held =
              record {
                things = A.columns;
                listed =
                    record {
                      nonempty = omega (arith, w.0, count);
                      few = omega (arith, w.1, count);
                      each = ((line_within_iff A).0 v.good.within).1;
                    };
                count = count;
                is = ap (λ (x : Line). x.terms) v.is
                    ∙ kept (map term_value A.columns) (rw length-map (omega (arith, w.1, count)));
              };
          clear = (apart_iff A).0 v.good.clear;
        }

    terms_iff : 1 ≤ l.table → l.table ≤ t.count
        → TermsHeld (get_or t.columns (l.table - 1) 0) l.terms ↔ ViewOf widths l
    terms_iff some last = (terms_view some last, view_terms)

-- ---- a line, by the width for it

module _ (widths : List ℕ) (t : Tables) (tables : TablesOf widths t) (l : Line) where
  table_place : (used : Bool) → ViewPlace widths used l → TablePlace t.count used l.table
  table_place true v = view_table widths t tables l v
  table_place false e = unused_table e

  -- too wide for any table
  pub too_wide : {used : Bool} {w : ℕ} → WidthFor t.count t.columns l.table used w → most_columns < w
      → ViewPlace widths used l → ⊥
  too_wide (of_view_lem some last) h v = omega (arith, (width_within widths t tables (l.table - 1) (omega arith)).1)
  too_wide (of_none e) h v = omega arith
  too_wide (of_wrong {used} f) h v = f (table_place used v)

  pub width_iff_place : {used : Bool} {w : ℕ} → WidthFor t.count t.columns l.table used w → w ≤ most_columns
      → length l.terms ≡ most_columns → TermsFor w l.terms ↔ ViewPlace widths used l
  width_iff_place (of_view_lem some last) h long =
      let w = width_within widths t tables (l.table - 1) (omega arith) in
      Iff.trans (terms_held _ l.terms long w.0 w.1) (terms_iff widths t tables l some last)
  width_iff_place (of_none e) h long = terms_unused long e
  width_iff_place (of_wrong f) h long = absurd (omega arith)

-- ---- the views, place by place

-- what the code reads behind the views' end
abbrev pub no_line : Line
no_line = record { table = 0; terms = [] }

module _ (widths : List ℕ) (n : ℕ) (l : List Line) where
  pub views_checked : ViewsHeld widths n l → Checked most_views (ViewPlace widths) no_line n l
  views_checked h =
      checked_default no_line (held_length (GoodView widths) line_value unused_line most_views n l h)
      (held_checked (GoodView widths) line_value unused_line most_views n l h)

  pub checked_views : length l ≡ most_views → Checked most_views (ViewPlace widths) no_line n l → ViewsHeld widths n l
  checked_views long c = checked_held (GoodView widths) line_value unused_line most_views n l long (checked_default unused_line long c)
