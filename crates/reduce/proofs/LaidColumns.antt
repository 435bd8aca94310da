-- The columns of a query's lines by its rows, and what stands over what column by column.
use mathlib.Core.Path.{◌≡◌, refl, sym, ap, ◌∙◌}
use mathlib.Core.Logic.{◌↔◌, ◌⊎◌, inl, inr}
use mathlib.Core.List.{List}
use Prim.Native.Nat.{ℕ, ◌<◌}
use native.Mathlib.Decide.{dec_lt}
use native.Mathlib.Omega.{arith}
use lib.Dec.{T}
use lib.ListN.{length}
use Rattle.theory.specs.Query.{constant, shown, hidden, Query}
use Rattle.theory.specs.Query.{Term as TheTerm, Line as TheLine}
use Rattle.theory.specs.Cover.{at}
use Rattle.theory.specs.Executable.Reduce.{keeps}
use Rattle.theory.proofs.Tuples.{zip_place, place_zip}
use Rattle.theory.proofs.Executable.Test.{same_iff}
use Rattle.theory.proofs.Executable.Reduce.{agrees_iff}
use Rattle.model.specs.Limits.{most_columns}
use Rattle.model.specs.Value.{unused_term, term_value}
use Rattle.model.specs.Rows.{laid_term}
use Rattle.model.proofs.Values.{value_same}
use Rattle.entering.specs.Agree.{line_at}
use Rattle.entering.specs.Laid.{Laid}
use Rattle.entering.specs.Worded.{HiddenAt}
use Rattle.reduce.proofs.Agree.{Goes, Joint}
use Rattle.model.proofs.Same.{same_term_iff}
use Rattle.entering.proofs.Lines.{laid_few}
use Rattle.model.proofs.LineValues.{same_unused, used, unused}

-- ---- terms

pub hidden_or_not : (t : TheTerm) → ((n : ℕ) × (t ≡ hidden n)) ⊎ ((n : ℕ) → t ≡ hidden n → ⊥)
hidden_or_not (constant c) = inr (λ n e. let z : ◌≡◌ {A = ℕ} 0 1 = cc in omega arith)
hidden_or_not (shown k) = inr (λ n e. let z : ◌≡◌ {A = ℕ} 0 1 = cc in omega arith)
hidden_or_not (hidden n) = inl (n, refl)

-- a term that is no hidden variable stands over itself
pub kept_same : (t u : TheTerm) → ((n : ℕ) → t ≡ hidden n → ⊥) → T (keeps (t, u)) → t ≡ u
unfolding keeps
kept_same (constant c) u f h = (same_iff (constant c) u).0 h
kept_same (shown n) u f h = (same_iff (shown n) u).0 h
kept_same (hidden n) u f h = absurd (f n refl)

-- ---- lines

pub goes_same : {A S : TheLine} → Goes A S → (p : ℕ) → p < length A.columns → ((n : ℕ) → at A p ≡ hidden n → ⊥) → at A p ≡ at S p
goes_same {A} {S} g p l f =
    kept_same (at A p) (at S p) f
    (g.kept (at A p, at S p) (zip_place A.columns S.columns p (constant 0) (constant 0) g.width l))

module _ {A S B D : TheLine} (first : Goes A S) (second : Goes B D) where
  pub joint_columns : Joint A S B D
      ↔ ((p q : ℕ) → p < length A.columns → q < length B.columns → at A p ≡ at B q → at S p ≡ at D q)
  joint_columns = (
    λ h p q l k e.
        let i = zip_place A.columns S.columns p (constant 0) (constant 0) first.width l in
        let j = zip_place B.columns D.columns q (constant 0) (constant 0) second.width k in
        (agrees_iff (at A p, at S p) (at B q, at D q)).0 (h (at A p, at S p) i (at B q, at D q) j) e,
    λ h y i z j.
        let (p, pa, ps, ey, fy) = place_zip A.columns S.columns (constant 0) (constant 0) y i in
        let (q, qb, qd, ez, fz) = place_zip B.columns D.columns (constant 0) (constant 0) z j in
        (agrees_iff y z).1 (λ e. fy ∙ h p q pa qb (sym ey ∙ e ∙ ez) ∙ sym fz),
  )

-- ---- rows

module _ {Q : Query} {rows : List ℕ} (laid : Laid Q rows) (i : ℕ) (l : i < length Q) (p : ℕ) where
  pub laid_column : p < length (line_at Q i).columns → laid_term rows i p ≡ term_value (at (line_at Q i) p)
  laid_column h = (laid.row i l).term p (omega (arith, laid_few laid i l)) ∙ used (line_at Q i) (laid_few laid i l) p h

  pub hidden_laid : {n : ℕ} → HiddenAt (line_at Q i) n p → laid_term rows i p ≡ term_value (hidden n)
  hidden_laid h = laid_column h.there ∙ ap term_value h.is

  pub laid_hidden : (n : ℕ) → p < most_columns → laid_term rows i p ≡ term_value (hidden n) → HiddenAt (line_at Q i) n p
  laid_hidden n b e = go (dec_lt p (length (line_at Q i).columns))
    where
      go : Dec (p < length (line_at Q i).columns) → HiddenAt (line_at Q i) n p
      go (yes h) = record { there = h; is = value_same (at (line_at Q i) p) (hidden n) (sym (laid_column h) ∙ e) }
      go (no f) =
          let none : laid_term rows i p ≡ unused_term = (laid.row i l).term p b ∙ unused (line_at Q i) (laid_few laid i l) p (omega arith) in
          absurd (same_unused (hidden n) ((same_term_iff (term_value (hidden n)) unused_term).1 (sym e ∙ none)))
