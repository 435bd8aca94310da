-- Between lines of one table and one width, a line could go to another exactly when the other has its terms wherever it has no
-- hidden variable.
use mathlib.Core.Path.{◌≡◌, refl, sym, ap, subst, ◌∙◌}
use mathlib.Core.Logic.{◌↔◌, ⊎_elim}
use mathlib.Core.List.{List, []}
use Prim.Native.Nat.{ℕ, ◌≤◌, ◌<◌}
use native.Mathlib.Decide.{dec_lt}
use native.Mathlib.Omega.{arith}
use lib.Dec.{T}
use lib.ListN.{length}
use Rattle.theory.specs.Query.{constant, shown, hidden, Query}
use Rattle.theory.specs.Query.{Term as TheTerm, Line as TheLine}
use Rattle.theory.specs.Cover.{at}
use Rattle.theory.specs.Executable.Reduce.{keeps}
use Rattle.theory.proofs.Tuples.{get_d_mem, place_zip}
use Rattle.theory.proofs.Executable.Test.{same_iff}
use Rattle.words.specs.Bits.{bit}
use Rattle.words.proofs.Bits.{bit_cases}
use Rattle.model.specs.Limits.{most_columns}
use Rattle.model.specs.Value.{term_value, line_value}
use Rattle.model.specs.Rows.{term_at, laid_table, laid_term}
use Rattle.entering.specs.Agree.{goes, line_at}
use Rattle.entering.specs.Worded.{columns_word, HiddenAt, Given}
use Rattle.entering.proofs.Lines.{laid_few}
use Rattle.reduce.specs.LineTargets.{SameAt, Near}
use Rattle.reduce.proofs.Agree.{Goes, goes_iff}
use Rattle.reduce.proofs.KeptColumns.{Kept, kept_iff}
use Rattle.reduce.proofs.LaidColumns.{goes_same}
use Rattle.model.proofs.Values.{value_same}
use Rattle.model.proofs.LineValues.{used, unused}

-- ---- terms

-- a term stands over one that is the same unless it is a hidden variable
same_kept : (t u : TheTerm) → (((n : ℕ) → t ≡ hidden n → ⊥) → t ≡ u) → T (keeps (t, u))
unfolding keeps
same_kept (constant c) u f = (same_iff (constant c) u).1 (f (λ n e. let z : ◌≡◌ {A = ℕ} 0 1 = cc in omega arith))
same_kept (shown n) u f = (same_iff (shown n) u).1 (f (λ k e. let z : ◌≡◌ {A = ℕ} 0 1 = cc in omega arith))
same_kept (hidden n) u f = tt

-- ---- two lines

-- the column has no hidden variable
abbrev Plain : TheLine → ℕ → Type 0
Plain A p = (n : ℕ) → HiddenAt A n p → ⊥

plain_same : {A S : TheLine} → Goes A S → (p : ℕ) → p < length A.columns → Plain A p → at A p ≡ at S p
plain_same g p l f = goes_same g p l (λ n e. f n (record { there = l; is = e }))

module _ (A S : TheLine) (few : length A.columns ≤ most_columns) (few' : length S.columns ≤ most_columns) where
  goes_terms : T (goes A S) → (p : ℕ) → Plain A p → term_at (line_value A) p ≡ term_at (line_value S) p
  goes_terms t p f = go (dec_lt p (length A.columns))
    where
      g : Goes A S
      g = (goes_iff A S).0 t

      go : Dec (p < length A.columns) → term_at (line_value A) p ≡ term_at (line_value S) p
      go (yes l) = used A few p l ∙ ap term_value (plain_same g p l f) ∙ sym (used S few' p (omega (arith, g.width)))
      go (no n) = unused A few p (omega arith) ∙ sym (unused S few' p (omega (arith, g.width)))

  -- where A has no hidden variable, its target has none
  goes_plain : T (goes A S) → (p n : ℕ) → Plain A p → HiddenAt S n p → ⊥
  goes_plain t p n f h =
      let g = (goes_iff A S).0 t in
      let l : p < length A.columns = omega (arith, g.width, h.there) in
      f n (record { there = l; is = plain_same g p l f ∙ h.is })

  terms_go : A.table ≡ S.table → length A.columns ≡ length S.columns
      → ((p : ℕ) → p < most_columns → Plain A p → term_at (line_value A) p ≡ term_at (line_value S) p) → T (goes A S)
  terms_go table width same =
      (goes_iff A S).1 (record {
        table = table;
        width = width;
        kept = λ z m.
            let (p, l, k, e, f) = place_zip A.columns S.columns (constant 0) (constant 0) z m in
            subst (λ (w : TheTerm × TheTerm). T (keeps w)) (λ i. (sym e i, sym f i))
            (same_kept (at A p) (at S p)
            (λ h. value_same (at A p) (at S p)
            (sym (used A few p l) ∙ same p (omega arith) (λ n x. h n x.is) ∙ used S few' p k)));
      })

-- ---- the lines of a query

pub goes_self : {Q : Query} {n : ℕ} {rows words : List ℕ} → Given Q n rows words → (a : ℕ) → a < length Q
    → T (goes (line_at Q a) (line_at Q a))
goes_self {Q} g a l =
    let few = laid_few g.laid a l in terms_go (line_at Q a) (line_at Q a) few few refl refl (λ p b f. refl)

module _ {Q : Query} {n : ℕ} {rows words : List ℕ} (g : Given Q n rows words) (a : ℕ) (l : a < length Q) (kept : ℕ)
    (out : Kept (columns_word words a) kept) where
  abbrev A : TheLine
  A = line_at Q a

  -- the columns kept are those of A without a hidden variable
  kept_plain : (p : ℕ) → bit kept p ≡ 1 → (n : ℕ) → HiddenAt A n p → ⊥
  kept_plain p e n h =
      omega (arith, ((kept_iff out p).0 e).1, ((g.worded.line a l).columns p).1 (n, h))

  plain_kept : (p : ℕ) → p < most_columns → ((n : ℕ) → HiddenAt A n p → ⊥) → bit kept p ≡ 1
  plain_kept p b f =
      let w = columns_word words a in
      let none : bit w p ≡ 1 → ⊥ = λ e. let r = ((g.worded.line a l).columns p).0 e in f r.0 r.1 in
      (kept_iff out p).1 (b, ⊎_elim (λ z. z) (λ e. absurd (none e)) (bit_cases w p))

  module _ (s : ℕ) (k : s < length Q) where
    abbrev S : TheLine
    S = line_at Q s

    same_width : A.table ≡ S.table → length A.columns ≡ length S.columns
    unfolding line_at
    same_width e =
        g.widths A S (get_d_mem Q a (record { table = 0; columns = [] }) l) (get_d_mem Q s (record { table = 0; columns = [] }) k) e

    tables : (laid_table rows a ≡ laid_table rows s) ↔ (A.table ≡ S.table)
    unfolding line_value
    tables =
        let x = (g.laid.row a l).table in
        let y = (g.laid.row s k).table in (λ e. sym x ∙ e ∙ y, λ e. x ∙ e ∙ sym y)

    pub goes_near : T (goes A S) → Near rows words a kept s
    goes_near t = record {
      table = tables.1 ((goes_iff A S).0 t).table;
      apart = λ p e h.
          let (n, there) = ((g.worded.line s k).columns p).0 h in
          goes_plain A S (laid_few g.laid a l) (laid_few g.laid s k) t p n (kept_plain p e) there;
    }

    -- a line that is near is a target where its terms are those kept
    pub same_goes : Near rows words a kept s → SameAt rows a s kept ↔ T (goes A S)
    same_goes near =
        let x = laid_few g.laid a l in
        let y = laid_few g.laid s k in
        let table = tables.0 near.table in
        let u : (p : ℕ) → p < most_columns → laid_term rows a p ≡ term_at (line_value A) p = (g.laid.row a l).term in
        let v : (p : ℕ) → p < most_columns → laid_term rows s p ≡ term_at (line_value S) p = (g.laid.row s k).term in (
          λ same. terms_go A S x y table (same_width table) (λ p b f. sym (u p b) ∙ same p (plain_kept p b f) ∙ v p b),
          λ t p e.
              let b = ((kept_iff out p).0 e).0 in
              u p b ∙ goes_terms A S x y t p (kept_plain p e) ∙ sym (v p b),
        )
