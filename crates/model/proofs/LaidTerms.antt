-- A line laid into a row, number by number.
use mathlib.Core.Path.{◌≡◌, refl, subst, ◌∙◌}
use mathlib.Core.List.{List}
use Prim.Native.Nat.{ℕ, ◌+◌, ◌*◌, ◌≤◌, ◌<◌}
use native.Mathlib.Decide.{ℕ_discrete}
use native.Mathlib.Omega.{arith}
use lib.ListN.{length, get_or, set, length-set}
use lib.Seq.{get_or-set_same, get_or-set_other}
use Rattle.model.specs.Limits.{most_columns}
use Rattle.model.specs.Rows.{row_long, mark_place, term_at, laid_term, LaidAt, LaidInto}
use Rattle.model.specs.declared.Term.{Term}
use Rattle.model.specs.declared.Line.{Line}

-- ---- a row that is not written to

-- a term is that of its two numbers
pub same_term_lem : (rows rows' : List ℕ) (k p : ℕ) → get_or rows' (mark_place k p) 0 ≡ get_or rows (mark_place k p) 0
    → get_or rows' (mark_place k p + 1) 0 ≡ get_or rows (mark_place k p + 1) 0 → laid_term rows' k p ≡ laid_term rows k p
unfolding laid_term
same_term_lem rows rows' k p e f = λ i. record { mark = e i; number = f i }

pub row_kept : {a : Line} {j : ℕ} {rows rows' : List ℕ} → ((i : ℕ) → i < j * row_long + row_long → get_or rows' i 0 ≡ get_or rows i 0)
    → LaidAt rows j a → LaidAt rows' j a
row_kept {j = j} {rows} {rows'} same r = record {
  table = same (j * row_long) (omega arith) ∙ r.table;
  term = λ p b. same_term_lem rows rows' j p (same (mark_place j p) (omega arith)) (same (mark_place j p + 1) (omega arith)) ∙ r.term p b;
}

-- ---- a term written

module _ (rows : List ℕ) (k p : ℕ) (t : Term) where
  -- the rows with the term in its place
  abbrev pub with_term : List ℕ
  with_term = set (set rows (mark_place k p) t.mark) (mark_place k p + 1) t.number

  pub term_length : length with_term ≡ length rows
  term_length =
      length-set (set rows (mark_place k p) t.mark) (mark_place k p + 1) t.number
      ∙ length-set rows (mark_place k p) t.mark

  pub term_other : (i : ℕ) → (i ≡ mark_place k p → ⊥) → (i ≡ mark_place k p + 1 → ⊥) → get_or with_term i 0 ≡ get_or rows i 0
  term_other i f g =
      get_or-set_other (set rows (mark_place k p) t.mark) (mark_place k p + 1) i t.number 0 g
      ∙ get_or-set_other rows (mark_place k p) i t.mark 0 f

  pub term_here : k * row_long + row_long ≤ length rows → p < most_columns → laid_term with_term k p ≡ t
  unfolding laid_term
  term_here h b =
      let m = set rows (mark_place k p) t.mark in
      let e : get_or with_term (mark_place k p) 0 ≡ t.mark =
      get_or-set_other m (mark_place k p + 1) (mark_place k p) t.number 0 (λ x. omega arith)
      ∙ get_or-set_same rows (mark_place k p) t.mark 0 (omega arith) in
      let f : get_or with_term (mark_place k p + 1) 0 ≡ t.number =
      get_or-set_same m (mark_place k p + 1) t.number 0 (omega (arith, length-set rows (mark_place k p) t.mark)) in
      λ i. record { mark = e i; number = f i }

-- ---- a line, its terms before column p laid

pub record LaidTo (a : Line) (k p : ℕ) (rows rows' : List ℕ) : Type 0 where
  pub long : length rows' ≡ length rows
  pub before : (i : ℕ) → i < k * row_long → get_or rows' i 0 ≡ get_or rows i 0
  pub after : (i : ℕ) → k * row_long + row_long ≤ i → get_or rows' i 0 ≡ get_or rows i 0
  pub terms : (q : ℕ) → q < p → laid_term rows' k q ≡ term_at a q

pub term_laid : {a : Line} {k p : ℕ} {rows rows' : List ℕ} (t : Term) → LaidTo a k p rows rows' → k * row_long + row_long ≤ length rows
    → p < most_columns → t ≡ term_at a p → LaidTo a k (p + 1) rows (with_term rows' k p t)
term_laid {a} {k} {p} {rows} {rows'} t l h b e = record {
  long = term_length rows' k p t ∙ l.long;
  before = λ i c. term_other rows' k p t i (λ x. omega arith) (λ x. omega arith) ∙ l.before i c;
  after = λ i c. term_other rows' k p t i (λ x. omega arith) (λ x. omega arith) ∙ l.after i c;
  terms = λ q c. go q c (ℕ_discrete q p);
}
  where
    room : k * row_long + row_long ≤ length rows'
    room = omega (arith, h, l.long)

    go : (q : ℕ) → q < p + 1 → Dec (q ≡ p) → laid_term (with_term rows' k p t) k q ≡ term_at a q
    go q c (yes x) = rw x (term_here rows' k p t room b ∙ e)
    go q c (no f) =
        same_term_lem rows' (with_term rows' k p t) k q
        (term_other rows' k p t (mark_place k q) (λ x. f (omega arith)) (λ x. omega arith))
        (term_other rows' k p t (mark_place k q + 1) (λ x. omega arith) (λ x. f (omega arith)))
        ∙ l.terms q (omega arith)

pub line_laid : {a : Line} {k p : ℕ} {rows rows' : List ℕ} → LaidTo a k p rows rows' → most_columns ≤ p → k * row_long + row_long ≤ length rows
    → LaidInto a k rows (set rows' (k * row_long) a.table)
line_laid {a} {k} {p} {rows} {rows'} l h room =
    let t = a.table in
    let other : (i : ℕ) → (i ≡ k * row_long → ⊥) → get_or (set rows' (k * row_long) t) i 0 ≡ get_or rows' i 0 =
    λ i f. get_or-set_other rows' (k * row_long) i t 0 f in
    record {
      long = length-set rows' (k * row_long) t ∙ l.long;
      before = λ i b. other i (λ x. omega arith) ∙ l.before i b;
      after = λ i b. other i (λ x. omega arith) ∙ l.after i b;
      row =
          record {
            table = get_or-set_same rows' (k * row_long) t 0 (omega (arith, room, l.long));
            term = λ q b.
                same_term_lem rows' (set rows' (k * row_long) t) k q (other (mark_place k q) (λ x. omega arith))
                (other (mark_place k q + 1) (λ x. omega arith))
                ∙ l.terms q (omega arith);
          };
    }

-- ---- rows, one by one

-- the rows before k have the lines of a function
abbrev pub RowsTo : (ℕ → Line) → ℕ → List ℕ → Type 0
RowsTo f k rows = (j : ℕ) → j < k → LaidAt rows j (f j)

pub rows_none : (f : ℕ → Line) (rows : List ℕ) → RowsTo f 0 rows
rows_none f rows j h = absurd (omega arith)

-- one row more, the rows before it as they were
pub rows_more : (f : ℕ → Line) {k : ℕ} {rows rows' : List ℕ} {a : Line} → RowsTo f k rows → a ≡ f k
    → ((i : ℕ) → i < k * row_long → get_or rows' i 0 ≡ get_or rows i 0) → LaidAt rows' k a → RowsTo f (k + 1) rows'
rows_more f {k} {rows} {rows'} r e before row j h = go (ℕ_discrete j k)
  where
    go : Dec (j ≡ k) → LaidAt rows' j (f j)
    go (yes x) = rw x (subst (LaidAt rows' k) e row)
    go (no n) = row_kept (λ i b. before i (omega arith)) (r j (omega arith))
