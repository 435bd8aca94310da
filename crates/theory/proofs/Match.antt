-- Rows cell by cell, and when a view matches a row: some valuation turns it into the row. This is decided.
use mathlib.Core.Path.{◌≡◌, refl, sym, ap, ◌∙◌}
use mathlib.Core.List.Memᴰ
use mathlib.Core.List.{List, [], ◌∷◌, zip}
use Prim.Native.Nat.{ℕ, ◌<◌}
use native.Mathlib.Decide.{ℕ_discrete}
use lib.ListN.{length, get_or, length-map}
use Rattle.theory.specs.Query.{Term, constant, shown, hidden, Line, ◌∈◌}
use Rattle.theory.specs.Archive.{Row, Archive, value, row, Answer}
use Rattle.theory.specs.Cover.{at}
use Rattle.theory.proofs.Find.{Functional, find, found}
use Rattle.theory.proofs.Terms.{term_discrete}
use Rattle.theory.proofs.Tuples.{tuple_path, tuple_discrete, get_d_map, map_places, zip_place, place_zip}

-- ---- cells

-- the value at a column
abbrev pub cell : Row → ℕ → ℕ
cell b p = get_or b.columns p 0

pub row_cell : (s h : ℕ → ℕ) (A : Line) (p : ℕ) → p < length A.columns → cell (row s h A) p ≡ value s h (at A p)
row_cell s h A p l = get_d_map (value s h) A.columns p (constant 0) 0 l

pub row_path : (s h : ℕ → ℕ) (A : Line) (b : Row) → A.table ≡ b.table → length A.columns ≡ length b.columns
    → ((p : ℕ) → p < length A.columns → value s h (at A p) ≡ cell b p) → row s h A ≡ b
row_path s h A b t w f = tuple_path t (map_places (value s h) A.columns b.columns (constant 0) 0 w f)

-- ---- the answers of one line

pub answer_of : {A : Line} {D : Archive} {s : ℕ → ℕ} (h : ℕ → ℕ) → row s h A ∈ D → Answer (A ∷ []) D s
answer_of {s = s} h m = (h, λ B k. Memᴰ.cast (ap (row s h) (Memᴰ.eq_of_singleton k)) m)

pub of_answer : {A : Line} {D : Archive} {s : ℕ → ℕ} → Answer (A ∷ []) D s → (h : ℕ → ℕ) × (row s h A ∈ D)
of_answer {A} x = (x.0, x.1 A (Memᴰ.head refl))

-- ---- matching

pub record Matches (v : Line) (a : Row) : Type 0 where
  pub s : ℕ → ℕ
  pub h : ℕ → ℕ
  pub same : row s h v ≡ a

-- what a row must have for a view to match it
pub record Matchable (v : Line) (a : Row) : Type 0 where
  pub table : v.table ≡ a.table
  pub width : length v.columns ≡ length a.columns
  pub constants : (p c : ℕ) → p < length v.columns → at v p ≡ constant c → cell a p ≡ c
  pub equals : (p q : ℕ) → p < length v.columns → q < length v.columns → at v p ≡ at v q → cell a p ≡ cell a q

module _ (v : Line) (a : Row) where
  zs : List (Term × ℕ)
  zs = zip v.columns a.columns

  -- the valuation read off the row
  valuation : (ℕ → Term) → ℕ → ℕ
  valuation mark n = find term_discrete 0 (mark n) zs

  zs_functional : Matchable v a → Functional zs
  unfolding zs
  zs_functional k y z m n e =
      let p = place_zip v.columns a.columns (constant 0) 0 y m in
      let q = place_zip v.columns a.columns (constant 0) 0 z n in
      p.4 ∙ k.equals p.0 q.0 p.1 q.1 (sym p.3 ∙ e ∙ q.3) ∙ sym q.4

  matched : Matchable v a → row (valuation shown) (valuation hidden) v ≡ a
  unfolding zs valuation
  matched k =
      row_path (valuation shown) (valuation hidden) v a k.table k.width
      (λ p l. by_kind (at v p) (cell a p) (zip_place v.columns a.columns p (constant 0) 0 k.width l)
      (λ c e. k.constants p c l e))
    where
      by_kind : (t : Term) (x : ℕ) → ◌∈◌ {X = Term × ℕ} (t, x) zs → ((c : ℕ) → t ≡ constant c → x ≡ c)
          → value (valuation shown) (valuation hidden) t ≡ x
      by_kind (constant c) x m f = sym (f c refl)
      by_kind (shown n) x m f = found term_discrete 0 zs (zs_functional k) (shown n, x) m
      by_kind (hidden n) x m f = found term_discrete 0 zs (zs_functional k) (hidden n, x) m

  pub matches : Matchable v a → Matches v a
  matches k = record { s = valuation shown; h = valuation hidden; same = matched k }

  pub matchable : Matches v a → Matchable v a
  matchable k =
      let cells : (p : ℕ) → p < length v.columns → cell a p ≡ value k.s k.h (at v p) =
      λ p l. sym (ap (λ (b : Row). cell b p) k.same) ∙ row_cell k.s k.h v p l
      in
      record {
        table = ap (λ (b : Row). b.table) k.same;
        width = sym (length-map v.columns (value k.s k.h)) ∙ ap (λ (b : Row). length b.columns) k.same;
        constants = λ p c l e. cells p l ∙ ap (value k.s k.h) e;
        equals = λ p q l m e. cells p l ∙ ap (value k.s k.h) e ∙ sym (cells q m);
      }

pub match_decided : (v : Line) (a : Row) → Dec (Matches v a)
match_decided v a = go (tuple_discrete ℕ_discrete (row (valuation v a shown) (valuation v a hidden) v) a)
  where
    go : Dec (row (valuation v a shown) (valuation v a hidden) v ≡ a) → Dec (Matches v a)
    go (yes e) = yes (record { s = valuation v a shown; h = valuation v a hidden; same = e })
    go (no n) = no (λ k. n (matched v a (matchable v a k)))
