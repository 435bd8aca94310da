-- What is prepared of a policy, view by view: the rows, the words of the tables and the grants of the views before place k.
use mathlib.Core.Path.{◌≡◌, refl, sym, ap, subst, ◌∙◌}
use mathlib.Core.Bool.{cond}
use mathlib.Core.List.{List, []}
use Prim.Native.Nat.{ℕ, ◌+◌, ◌-◌, ◌^◌, ◌≤◌, ◌<◌}
use native.Mathlib.Decide.{ℕ_discrete}
use native.Mathlib.Omega.{arith}
use borrow.Author.Tests.{eq-eqb, ne_eqb}
use lib.Dec.{eqb}
use lib.ListN.{length, get_or, set, length-set}
use borrow.Author.Rules.{rules}
use borrow.Rule.Slice.PartMut.{put_mid}
use Rattle.std.proofs.lemmas.List.{places}
use lib.Seq.{get_or-set_same, get_or-set_other}
use Rattle.theory.proofs.Lists.{place_below}
use Rattle.words.specs.Sets.{set_bit}
use Rattle.model.specs.Limits.{most_tables, most_columns, most_views}
use Rattle.model.specs.Value.{pad}
use Rattle.model.specs.Rows.{mark_place, laid_term, LaidAt, LaidInto}
use Rattle.model.specs.declared.Term.{Term}
use Rattle.model.specs.declared.Line.{Line}
use Rattle.model.specs.declared.Policy.{Policy}
use Rattle.model.proofs.Pad.{pad_length, pad_get}
use Rattle.model.proofs.LaidTerms.{RowsTo, same_term_lem, row_kept, rows_none, rows_more}
use Rattle.covering.specs.Prepared.{table_words, grant_words, every_word, width_words, free_words, prepared_long, table_word, grant_word, free_word}
use Rattle.covering.specs.Prepared.{Prepared, ViewEntered, WidthsEntered, FreeFound}
use Rattle.covering.specs.Free.{FreeColumns}
use Rattle.covering.proofs.Columns.{free_none}
use Rattle.covering.proofs.Masks.{Mask, mask_none, mask_more, mask_all}
use Rattle.covering.proofs.Views.{no_line, view_value}

-- the value at a view's place
abbrev pub value_at : Policy → ℕ → Line
value_at p j = get_or p.views j no_line

-- ---- one view

module _ (v : Line) (grants k : ℕ) {before laid : List ℕ} (long : length before ≡ prepared_long) (room : k < most_views)
    (l : LaidInto v k before laid) where
  -- the places behind the rows are as they were
  behind : (i : ℕ) → table_words ≤ i → get_or laid i 0 ≡ get_or before i 0
  behind i h = l.after i (omega arith)

  abbrev granted : List ℕ → List ℕ
  granted r = set r (grant_words + k) grants

  -- the row laid, a place behind the rows perhaps changed, and the grants
  entered : (r : List ℕ) → length r ≡ length laid → ((i : ℕ) → i < table_words → get_or r i 0 ≡ get_or laid i 0)
      → ((t : ℕ) → t ≤ most_tables → table_word r t ≡ cond (eqb t v.table) (set_bit (table_word before t) k) (table_word before t))
      → ((i : ℕ) → grant_words ≤ i → get_or r i 0 ≡ get_or laid i 0) → ViewEntered v grants k before (granted r)
  entered r same rows table others =
      let other : (i : ℕ) → (i ≡ grant_words + k → ⊥) → get_or (granted r) i 0 ≡ get_or r i 0 =
      λ i n. get_or-set_other r (grant_words + k) i grants 0 n in
      record {
        long = length-set r (grant_words + k) grants ∙ same ∙ l.long;
        row = row_kept (λ i h. other i (λ e. omega (arith, e, h, room)) ∙ rows i (omega (arith, h, room))) l.row;
        rows = λ i h. other i (λ e. omega (arith, e, h, room)) ∙ rows i (omega (arith, h, room)) ∙ l.before i h;
        table = λ t h. other (table_words + t) (λ e. omega (arith, e, h)) ∙ table t h;
        granted = get_or-set_same r (grant_words + k) grants 0 (omega (arith, same, l.long, long, room));
        others = λ j h.
            other (grant_words + j) (λ e. omega (arith, e, h)) ∙ others (grant_words + j) (omega arith)
            ∙ behind (grant_words + j) (omega arith);
        behind = λ i h. other i (λ e. omega (arith, e, h, room)) ∙ others i (omega (arith, h)) ∙ behind i (omega (arith, h));
      }

  -- the view is of no table
  pub entered_none : most_tables < v.table → ViewEntered v grants k before (granted laid)
  entered_none past =
      entered laid refl (λ i h. refl)
      (λ t h. rw (ne_eqb t v.table (λ e. omega (arith, e, h, past))) (behind (table_words + t) (omega arith))) (λ i h. refl)

  pub entered_table : (m : ℕ) → v.table ≤ most_tables → m ≡ set_bit (get_or laid (table_words + v.table) 0) k
      → ViewEntered v grants k before (granted (set laid (table_words + v.table) m))
  entered_table m small e =
      let at = table_words + v.table in
      let other : (i : ℕ) → (i ≡ at → ⊥) → get_or (set laid at m) i 0 ≡ get_or laid i 0 = λ i n. get_or-set_other laid at i m 0 n in
      entered (set laid at m) (length-set laid at m) (λ i h. other i (λ q. omega (arith, q, h))) (λ t h. go t h (ℕ_discrete t v.table))
      (λ i h. other i (λ q. omega (arith, q, small, h)))
    where
      go : (t : ℕ) → t ≤ most_tables → Dec (t ≡ v.table)
          → table_word (set laid (table_words + v.table) m) t ≡ cond (eqb t v.table) (set_bit (table_word before t) k) (table_word before t)
      go t h (yes q) =
          rw (eq-eqb t v.table q, q, get_or-set_same laid (table_words + v.table) m 0 (omega (arith, small, l.long, long)))
          (e ∙ ap (λ (x : ℕ). set_bit x k) (behind (table_words + v.table) (omega arith)))
      go t h (no n) =
          rw (ne_eqb t v.table n)
          (get_or-set_other laid (table_words + v.table) (table_words + t) m 0 (λ q. n (omega (arith, q)))
          ∙ behind (table_words + t) (omega arith))

-- ---- all views

pub record Partly (p : Policy) (k : ℕ) (r : List ℕ) : Type 0 where
  pub long : length r ≡ prepared_long
  pub row : RowsTo (value_at p) k r
  pub table : (t : ℕ) → t ≤ most_tables → Mask p k t (table_word r t)
  pub grant : (j : ℕ) → j < k → grant_word r j ≡ get_or p.grants j 0
  pub behind : (i : ℕ) → every_word ≤ i → get_or r i 0 ≡ 0

module _ (p : Policy) where
  pub partly_none : Partly p 0 (pad prepared_long 0 [])
  partly_none = record {
    long = pad_length prepared_long 0 [] (omega arith);
    row = rows_none (value_at p) (pad prepared_long 0 []);
    table = λ t h. rw (pad_get {X = ℕ} prepared_long 0 [] (table_words + t)) (mask_none p t);
    grant = λ j h. absurd (omega arith);
    behind = λ i h. pad_get {X = ℕ} prepared_long 0 [] i;
  }

  module _ {k : ℕ} {r : List ℕ} (l : Partly p k r) where
    pub partly_more : k < most_views → {r' : List ℕ} → ViewEntered (value_at p k) (get_or p.grants k 0) k r r' → Partly p (k + 1) r'
    partly_more room {r'} e = record {
      long = e.long ∙ l.long;
      row = rows_more (value_at p) l.row refl e.rows e.row;
      table = λ t h. mask_more p (l.table t h) room (e.table t h);
      grant = λ j h. go j h (ℕ_discrete j k);
      behind = λ i h. e.behind i h ∙ l.behind i h;
    }
      where
        go : (j : ℕ) → j < k + 1 → Dec (j ≡ k) → grant_word r' j ≡ get_or p.grants j 0
        go j h (yes q) = rw q e.granted
        go j h (no n) = e.others j (omega (arith, h, n)) ∙ l.grant j (omega (arith, h, n))

    -- the word of every partition behind the views, and the columns behind it
    pub partly_all : most_views ≤ k → (w : ℕ) → w ≡ 2 ^ p.partition_count - 1 → {r' : List ℕ}
        → WidthsEntered p.tables.columns (set r every_word w) r' → Prepared p r'
    partly_all all w e {r'} widths =
        let other : (i : ℕ) → i < every_word → get_or r' i 0 ≡ get_or r i 0 =
        λ i h. widths.kept i (omega (arith, h)) ∙ get_or-set_other r every_word i w 0 (λ q. omega (arith, q, h)) in
        let none : (i : ℕ) → free_words ≤ i → get_or r' i 0 ≡ 0 =
        λ i h.
        widths.behind i h ∙ get_or-set_other r every_word i w 0 (λ q. omega (arith, q, h)) ∙ l.behind i (omega (arith, h)) in
        record {
          long = widths.long ∙ length-set r every_word w ∙ l.long;
          laid = λ views held. record {
            row = λ n v at.
                let b = place_below views n at in
                row_kept (λ i h. other i (omega (arith, h, b, held.few)))
                (subst (LaidAt r n) (view_value held n v at) (l.row n (omega (arith, b, held.few, all))));
          };
          table = λ t h. rw (other (table_words + t) (omega (arith, h))) (mask_all p (l.table t h) all);
          grant = λ j h. other (grant_words + j) (omega (arith, h)) ∙ l.grant j (omega (arith, h, all));
          every = widths.kept every_word (omega arith) ∙ get_or-set_same r every_word w 0 (omega (arith, l.long)) ∙ e;
          width = widths.width;
          free = λ j h. subst (FreeColumns r' j) (sym (none (free_words + j) (omega arith))) free_none;
        }

-- ---- the columns, between what is before them and what is behind them

put_length : (a k : ℕ) (xs ys : List ℕ) → length ys ≡ k → a + k ≤ length xs → length (put_mid a k xs ys) ≡ length xs
put_length a k xs ys e room = search (rules, places)

put_below : (a k i : ℕ) (xs ys : List ℕ) → i < a → a ≤ length xs → get_or (put_mid a k xs ys) i 0 ≡ get_or xs i 0
put_below a k i xs ys h room = search (rules, places)

put_within : (a k i j : ℕ) (xs ys : List ℕ) → i ≡ a + j → a ≤ length xs → j < length ys → get_or (put_mid a k xs ys) i 0 ≡ get_or ys j 0
put_within a k i j xs ys e room h = search (rules, places)

put_behind : (a k i : ℕ) (xs ys : List ℕ) → a ≤ length xs → length ys ≡ k → a + k ≤ i → get_or (put_mid a k xs ys) i 0 ≡ get_or xs i 0
put_behind a k i xs ys room e h = search (rules, places)

pub widths_copied : (columns before : List ℕ) → length columns ≡ most_tables → length before ≡ prepared_long
    → WidthsEntered columns before (put_mid (width_words + 1) most_tables before columns)
widths_copied columns before few long = record {
  long = put_length (width_words + 1) most_tables before columns few (omega arith);
  kept = λ i h. put_below (width_words + 1) most_tables i before columns (omega arith) (omega arith);
  behind = λ i h. put_behind (width_words + 1) most_tables i before columns (omega arith) few (omega arith);
  width = λ t h. put_within (width_words + 1) most_tables (width_words + (1 + t)) t before columns (omega arith) (omega arith) (omega arith);
}

-- ---- the free columns, view by view

pub record FreeTo (k : ℕ) (before after : List ℕ) : Type 0 where
  pub long : length after ≡ length before
  pub kept : (i : ℕ) → i < free_words → get_or after i 0 ≡ get_or before i 0
  pub free : (j : ℕ) → j < k → FreeColumns after j (free_word after j)

-- a row says which of its columns are free
free_kept : {rows rows' : List ℕ} (k w : ℕ) → k < most_views → ((i : ℕ) → i < free_words → get_or rows' i 0 ≡ get_or rows i 0)
    → FreeColumns rows k w → FreeColumns rows' k w
free_kept {rows} {rows'} k w room same f p e =
    let o = f p e in
    let at : (q : ℕ) → q < most_columns → laid_term rows' k q ≡ laid_term rows k q =
    λ q h.
    same_term_lem rows rows' k q (same (mark_place k q) (omega (arith, h, room))) (same (mark_place k q + 1) (omega (arith, h, room))) in
    record {
      there = o.there;
      shows = ap (λ (t : Term). t.mark) (at p o.there) ∙ o.shows;
      alone = λ q h x. o.alone q h (sym (at p o.there) ∙ x ∙ at q h);
    }

module _ (before : List ℕ) where
  pub free_next : {k : ℕ} {after : List ℕ} (w : ℕ) → length before ≡ prepared_long → k < most_views → FreeTo k before after
      → FreeColumns after k w → FreeTo (k + 1) before (set after (free_words + k) w)
  free_next {k} {after} w long room f columns = record {
    long = length-set after (free_words + k) w ∙ f.long;
    kept = λ i h. same i h ∙ f.kept i h;
    free = λ j h. go j h (ℕ_discrete j k);
  }
    where
      same : (i : ℕ) → i < free_words → get_or (set after (free_words + k) w) i 0 ≡ get_or after i 0
      same i h = get_or-set_other after (free_words + k) i w 0 (λ q. omega (arith, q, h))

      go : (j : ℕ) → j < k + 1 → Dec (j ≡ k) → FreeColumns (set after (free_words + k) w) j (free_word (set after (free_words + k) w) j)
      go j h (yes q) =
          rw (q, get_or-set_same after (free_words + k) w 0 (omega (arith, f.long, long, room))) (free_kept k w room same columns)
      go j h (no n) =
          rw (get_or-set_other after (free_words + k) (free_words + j) w 0 (λ q. n (omega (arith, q))))
          (free_kept j (free_word after j) (omega (arith, h, room)) same (f.free j (omega (arith, h, n))))

-- the free columns change nothing that is prepared before them
pub prepared_free : {p : Policy} {r r' : List ℕ} → Prepared p r → FreeFound r r' → Prepared p r'
prepared_free m f = record {
  long = f.long ∙ m.long;
  laid = λ views held. record {
    row = λ n v at.
        let b = place_below views n at in
        row_kept (λ i h. f.kept i (omega (arith, h, b, held.few))) ((m.laid views held).row n v at);
  };
  table = λ t h. rw (f.kept (table_words + t) (omega (arith, h))) (m.table t h);
  grant = λ k h. f.kept (grant_words + k) (omega (arith, h)) ∙ m.grant k h;
  every = f.kept every_word (omega arith) ∙ m.every;
  width = λ t h. f.kept (width_words + (1 + t)) (omega (arith, h)) ∙ m.width t h;
  free = f.free;
}
