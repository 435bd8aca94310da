-- Words and tables of links between the targets of two lines, row by row and variable by variable.
use mathlib.Core.Path.{◌≡◌, refl, sym, ap, subst, ◌∙◌}
use mathlib.Core.Logic.{◌↔◌, ◌⊎◌, inl, inr, ⊎_elim}
use mathlib.Core.List.{List}
use Prim.Native.Nat.{ℕ, ◌*◌, ◌-◌, ◌/◌, ◌%◌, ◌^◌, ◌<◌}
use native.Mathlib.Decide.{ℕ_discrete, dec_lt}
use native.Mathlib.Omega.{arith}
use lib.Bits.{bit_and, bit_or}
use lib.ListN.{length, get_or, set, length-set}
use lib.Seq.{get_or-set_same, get_or-set_other}
use Rattle.theory.specs.Query.{hidden}
use Rattle.words.specs.Bits.{bit}
use Rattle.words.specs.Sets.{Upto, Least, LeastDropped}
use Rattle.words.proofs.Bits.{bit_zero, bit_within}
use Rattle.words.proofs.Masks.{bit_and_iff, bit_or_iff}
use Rattle.words.proofs.Lowest.{dropped_same, dropped_other}
use Rattle.words.proofs.Marks.{left_before}
use Rattle.words.proofs.ClearBits.{low_bits_set, low_bits_below}
use Rattle.model.specs.Limits.{most_lines}
use Rattle.model.specs.Rows.{laid_term}
use Rattle.model.specs.Value.{term_value}
use Rattle.model.specs.declared.Term.{Term}
use Rattle.reduce.specs.Columns.{FirstColumn}
use Rattle.reduce.specs.PairNumbers.{most_pairs, pair_of, line_of, target_of}
use Rattle.reduce.specs.Links.{LineBits, AgreeWord, HasVariable, Linked, LinksPut}
use Rattle.reduce.proofs.PairNumbers.{line_of_lem, target_of_lem}
use Rattle.reduce.proofs.FirstColumns.{first_unique}
use Rattle.reduce.proofs.PairRows.{row_bits, row_of_bits}

-- ---- a word of pairs, line by line

-- the pairs of the lines of `row` that are no longer in `rest` are set by the test, and no others
pub record RowsSet (P : ℕ → Type 0) (row rest m : ℕ) : Type 0 where
  pub some : (i : ℕ) → bit rest i ≡ 1 → bit row i ≡ 1
  pub done : (k : ℕ) → (bit m k ≡ 1) ↔ ((bit row (line_of k) ≡ 1) × (bit rest (line_of k) ≡ 0) × P k)

module _ {P : ℕ → Type 0} {row : ℕ} where
  pub rows_none : RowsSet P row row 0
  rows_none = record {
    some = λ i e. e;
    done = λ k. (λ e. absurd (omega (arith, bit_zero k)), λ r. absurd (omega (arith, r.0, r.1)));
  }

  pub rows_more : {rest t next m : ℕ} (x : ℕ) → RowsSet P row rest m → Least 64 rest t → LeastDropped 64 rest next → LineBits x
      → t < most_lines → ((u : ℕ) → u < most_lines → (bit x u ≡ 1) ↔ P (pair_of t u))
      → RowsSet P row next (bit_or m (x * 2 ^ (t * most_lines) % 2 ^ 64))
  rows_more {rest} {t} {next} {m} x r l d lines h w = record {
    some = λ i e. r.some i (left_before i l d e);
    done = λ k. go k (ℕ_discrete (line_of k) t);
  }
    where
      go : (k : ℕ) → Dec (line_of k ≡ t)
          → (bit (bit_or m (x * 2 ^ (t * most_lines) % 2 ^ 64)) k ≡ 1)
          ↔ ((bit row (line_of k) ≡ 1) × (bit next (line_of k) ≡ 0) × P k)
      go k (yes e) =
          let o = bit_or_iff m (x * 2 ^ (t * most_lines) % 2 ^ 64) k in
          let s = row_bits x t lines h k in
          let at : pair_of t (target_of k) ≡ k = omega arith in
          let v : (bit x (target_of k) ≡ 1) ↔ P k = rw at at (w (target_of k) (omega arith)) in (
            λ g. (
              rw e (r.some t l.set),
              rw e (dropped_same d l),
              ⊎_elim (λ y. absurd (omega (arith, rw e at ((r.done k).0 y).1, l.set))) (λ y. v.0 (s.0 y).1) (o.0 g),
            ),
            λ g. o.1 (inr (s.1 (e, v.1 g.2))),
          )
      go k (no f) =
          let o = bit_or_iff m (x * 2 ^ (t * most_lines) % 2 ^ 64) k in
          let s = row_bits x t lines h k in
          let n = dropped_other (line_of k) d l f in
          let p = r.done k in (
            λ g. ⊎_elim (λ y. let z = p.0 y in (z.0, n ∙ z.1, z.2)) (λ y. absurd (f (s.0 y).0)) (o.0 g),
            λ g. o.1 (inl (p.1 (g.0, sym n ∙ g.1, g.2))),
          )

  pub rows_all : {m : ℕ} → RowsSet P row 0 m → (k : ℕ) → (bit m k ≡ 1) ↔ ((bit row (line_of k) ≡ 1) × P k)
  rows_all r k = let w = r.done k in (λ e. let h = w.0 e in (h.0, h.2), λ h. w.1 (h.0, bit_zero (line_of k), h.1))

-- the bits of a word made bit by bit lie below the bound
pub upto_below : {P : ℕ → Type 0} {p m : ℕ} → Upto P p m → (b : ℕ) → bit m b ≡ 1 → b < p
upto_below {p = p} u b e = go (dec_lt b p)
  where
    go : Dec (b < p) → b < p
    go (yes l) = l
    go (no n) = absurd (omega (arith, e, u.past b (omega arith)))

-- the rows that agree with row t
pub agreeing : (rows : List ℕ) (t p q : ℕ) {x : Term} {r : ℕ} → x ≡ laid_term rows t p → Upto (λ u. x ≡ laid_term rows u q) most_lines r
    → (u : ℕ) → u < most_lines
    → (bit r u ≡ 1) ↔ (laid_term rows (line_of (pair_of t u)) p ≡ laid_term rows (target_of (pair_of t u)) q)
agreeing rows t p q e w u l =
    let v = w.below u l in rw (line_of_lem t u l, target_of_lem t u l) (λ h. sym e ∙ v.0 h, λ h. v.1 (e ∙ h))

-- ---- a word of pairs, variable by variable

-- of the pairs of lines of `row`, those are set that pass the tests of the variables no longer in `rest`
pub record TestsPassed (P : ℕ → ℕ → Type 0) (row c rest w : ℕ) : Type 0 where
  pub some : (n : ℕ) → bit rest n ≡ 1 → bit c n ≡ 1
  pub done : (k : ℕ) → bit row (line_of k) ≡ 1 → (bit w k ≡ 1) ↔ ((n : ℕ) → bit c n ≡ 1 → bit rest n ≡ 0 → P n k)

module _ {P : ℕ → ℕ → Type 0} {row c : ℕ} where
  pub passed_none : LineBits row → TestsPassed P row c c (2 ^ 64 - 1)
  passed_none lines = record {
    some = λ n e. e;
    done = λ k h. (λ e n x y. absurd (omega arith), λ f. low_bits_set 64 k (omega (arith, lines (line_of k) h)));
  }

  pub passed_more : {rest n next w : ℕ} (x : ℕ) → TestsPassed P row c rest w → Least 64 rest n → LeastDropped 64 rest next
      → ((k : ℕ) → bit row (line_of k) ≡ 1 → (bit x k ≡ 1) ↔ P n k) → TestsPassed P row c next (bit_and w x)
  passed_more {rest} {n} {next} {w} x r l d v = record {
    some = λ i e. r.some i (left_before i l d e);
    done = λ k h.
        let a = bit_and_iff w x k in (
          λ e j y z. go k h (a.0 e) j y z (ℕ_discrete j n),
          λ f. a.1 (
            (r.done k h).1 (λ j y z. f j y (dropped j z)),
            (v k h).1 (f n (r.some n l.set) (dropped_same d l)),
          ),
        );
  }
    where
      dropped : (j : ℕ) → bit rest j ≡ 0 → bit next j ≡ 0
      dropped j z = dropped_other j d l (λ e. omega (arith, l.set, rw e at z)) ∙ z

      go : (k : ℕ) → bit row (line_of k) ≡ 1 → (bit w k ≡ 1) × (bit x k ≡ 1) → (j : ℕ) → bit c j ≡ 1 → bit next j ≡ 0 → Dec (j ≡ n)
          → P j k
      go k h e j y z (yes s) = subst (λ (i : ℕ). P i k) (sym s) ((v k h).0 e.1)
      go k h e j y z (no f) = (r.done k h).0 e.0 j y (sym (dropped_other j d l f) ∙ z)

  pub passed_all : {w : ℕ} → TestsPassed P row c 0 w → (k : ℕ) → bit row (line_of k) ≡ 1
      → (bit w k ≡ 1) ↔ ((n : ℕ) → bit c n ≡ 1 → P n k)
  passed_all r k h = let v = r.done k h in (λ e n y. v.0 e n y (bit_zero n), λ f. v.1 (λ n y z. f n y))

-- a variable that rows a and b have links the rows that agree in its first columns
pub linking : {rows : List ℕ} (n row x : ℕ) {a b p q : ℕ} → HasVariable rows a n → HasVariable rows b n
    → FirstColumn rows a (term_value (hidden n)) p → FirstColumn rows b (term_value (hidden n)) q → AgreeWord rows p q row x
    → (k : ℕ) → bit row (line_of k) ≡ 1 → (bit x k ≡ 1) ↔ Linked rows n a b (line_of k) (target_of k)
linking {rows} n row x h g first second w k e = (
  λ s i j f d.
      let x = first_unique h.0 h.1 h.2 first f in
      let y = first_unique g.0 g.1 g.2 second d in
      ap (laid_term rows (line_of k)) (sym x) ∙ ((w k).0 s).1 ∙ ap (laid_term rows (target_of k)) y,
  λ f. (w k).1 (e, f _ _ first second),
)

-- ---- links put into a table

-- the targets of line a that are no longer in `rest` have their links
pub record LinksSome (w row a b : ℕ) (before : List ℕ) (rest : ℕ) (table : List ℕ) : Type 0 where
  pub some : (t : ℕ) → bit rest t ≡ 1 → bit row t ≡ 1
  pub todo : (t : ℕ) → bit rest t ≡ 1 → get_or table (pair_of a t) 0 ≡ get_or before (pair_of a t) 0
  pub long : length table ≡ length before
  pub others : (p : ℕ) → (line_of p ≡ a → ⊥) → get_or table p 0 ≡ get_or before p 0
  pub links : (t k : ℕ) → bit row t ≡ 1 → bit rest t ≡ 0 → (bit (get_or table (pair_of a t) 0) k ≡ 1)
      ↔ ((bit (get_or before (pair_of a t) 0) k ≡ 1) ⊎ ((line_of k ≡ b) × (bit w (pair_of t (target_of k)) ≡ 1)))

-- the entry of a target with its links
abbrev pub with_links : (w t b entry : ℕ) → ℕ
with_links w t b entry =
    bit_or entry (bit_and (w / 2 ^ (t * most_lines)) (2 ^ most_lines - 1) * 2 ^ (b * most_lines) % 2 ^ 64)

with_links_lem : (w t b entry k : ℕ) → b < most_lines
    → (bit (with_links w t b entry) k ≡ 1) ↔ ((bit entry k ≡ 1) ⊎ ((line_of k ≡ b) × (bit w (pair_of t (target_of k)) ≡ 1)))
with_links_lem w t b entry k h =
    let x = bit_and (w / 2 ^ (t * most_lines)) (2 ^ most_lines - 1) in
    let lines : LineBits x =
    λ i e. bit_within most_lines i (low_bits_below most_lines most_lines (omega arith))
    ((bit_and_iff (w / 2 ^ (t * most_lines)) (2 ^ most_lines - 1) i).0 e).1 in
    let o = bit_or_iff entry (x * 2 ^ (b * most_lines) % 2 ^ 64) k in
    let s = row_bits x b lines h k in
    let v = row_of_bits w t (target_of k) (omega arith) in (
      λ e. ⊎_elim (λ y. inl y) (λ y. let z = s.0 y in inr (z.0, sym v ∙ z.1)) (o.0 e),
      λ r. o.1 (⊎_elim (λ y. inl y) (λ y. inr (s.1 (y.0, v ∙ y.1))) r),
    )

module _ {w row a b : ℕ} {before : List ℕ} where
  pub links_none : LinksSome w row a b before row before
  links_none = record {
    some = λ t e. e;
    todo = λ t e. refl;
    long = refl;
    others = λ p f. refl;
    links = λ t k e z. absurd (omega arith);
  }

  pub links_more : {rest t next : ℕ} {table : List ℕ} → LinksSome w row a b before rest table → Least 64 rest t → LeastDropped 64 rest next
      → LineBits row → length before ≡ most_pairs → a < most_lines → b < most_lines
      → LinksSome w row a b before next (set table (pair_of a t) (with_links w t b (get_or table (pair_of a t) 0)))
  links_more {rest} {t} {next} {table} r l d lines size la lb = record {
    some = λ i e. r.some i (left_before i l d e);
    todo = λ i e.
        get_or-set_other table (pair_of a t) (pair_of a i) v 0 (λ s. apart i e (omega arith)) ∙ r.todo i (left_before i l d e);
    long = length-set table (pair_of a t) v ∙ r.long;
    others = λ p f. get_or-set_other table (pair_of a t) p v 0 (λ s. f (rw s (line_of_lem a t small))) ∙ r.others p f;
    links = λ i k h z. go i k h z (ℕ_discrete i t);
  }
    where
      v : ℕ
      v = with_links w t b (get_or table (pair_of a t) 0)

      small : t < most_lines
      small = lines t (r.some t l.set)

      apart : (i : ℕ) → bit next i ≡ 1 → i ≡ t → ⊥
      apart i e s = omega (arith, dropped_same d l, rw s at e)

      go : (i k : ℕ) → bit row i ≡ 1 → bit next i ≡ 0 → Dec (i ≡ t)
          → (bit (get_or (set table (pair_of a t) (with_links w t b (get_or table (pair_of a t) 0))) (pair_of a i) 0) k ≡ 1)
          ↔ ((bit (get_or before (pair_of a i) 0) k ≡ 1) ⊎ ((line_of k ≡ b) × (bit w (pair_of i (target_of k)) ≡ 1)))
      go i k h z (yes s) =
          let here : pair_of a t < length table = omega (arith, r.long, small) in
          rw (s, get_or-set_same table (pair_of a t) (with_links w t b (get_or table (pair_of a t) 0)) 0 here, r.todo t l.set)
          (with_links_lem w t b (get_or before (pair_of a t) 0) k lb)
      go i k h z (no f) =
          rw (get_or-set_other table (pair_of a t) (pair_of a i) (with_links w t b (get_or table (pair_of a t) 0)) 0 (λ s. f (omega arith)))
          (r.links i k h (sym (dropped_other i d l f) ∙ z))

  pub links_all : {table : List ℕ} → LinksSome w row a b before 0 table → LinksPut w row a b before table
  links_all r = record { long = r.long; others = r.others; links = λ t k h. r.links t k h (bit_zero t) }
