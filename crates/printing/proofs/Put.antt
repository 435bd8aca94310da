-- The bytes of a term, of terms and of a line, from the pieces that they are written in.
use mathlib.Core.Path.{◌≡◌, refl, sym, ap, ◌∙◌}
use mathlib.Core.List.{List, [], ◌∷◌, ◌++◌}
use Prim.Native.Nat.{ℕ, ◌+◌, ◌*◌, ◌≤◌, ◌<◌}
use native.Mathlib.Decide.{dec_lt}
use native.Mathlib.Numerals.{add-one}
use native.Mathlib.Omega.{arith}
use lib.ListN.{length, take}
use lib.Seq.{take-suc, take_all}
use Rattle.theory.specs.Query.{constant, shown, hidden}
use Rattle.theory.specs.Query.{Term as TheTerm, Line as TheLine}
use Rattle.theory.specs.Cover.{at}
use Rattle.text.specs.Lines.{newline, space}
use Rattle.text.specs.Print.{decimal}
use Rattle.model.specs.Limits.{most_columns}
use Rattle.model.specs.Print.{print_term, spaced}
use Rattle.model.specs.Rows.{term_at}
use Rattle.model.specs.Value.{unused_term, term_value, line_value}
use Rattle.model.specs.declared.Term.{Term}
use Rattle.model.specs.declared.Line.{Line}
use Rattle.model.proofs.LineValues.{used, unused}
use Rattle.model.proofs.Spaced.{spaced_more, line_bytes}
use Rattle.writing.specs.Wrote.{Wrote}
use Rattle.writing.proofs.Wrote.{wrote_as, wrote_more, wrote_none}
use Rattle.printing.specs.Printing.{most_term_bytes, mark_byte, TermPut, TermsPut, LinePut}

-- ---- a term

spaced_is : (u : TheTerm) → space ∷ print_term u ≡ space ∷ mark_byte (term_value u).mark ∷ decimal (term_value u).number
unfolding mark_byte term_value print_term
spaced_is (constant c) = refl
spaced_is (shown n) = refl
spaced_is (hidden n) = refl

-- the space, the mark and the number
pub term_put : {t : Term} {was a b is : List ℕ} {m to i j r : ℕ} → Wrote was to (space ∷ []) a i → m ≡ mark_byte t.mark
    → Wrote a i (m ∷ []) b j → Wrote b j (decimal t.number) is r → TermPut t was to is r
term_put {t} {m = m} v e w n u q =
    wrote_as (ap (λ (x : ℕ). space ∷ x ∷ decimal t.number) e ∙ rw q (sym (spaced_is u))) (wrote_more (wrote_more v w) n)

-- ---- the terms of a line

-- the terms before p are written
pub record FirstPut (line : Line) (was : List ℕ) (start p : ℕ) (is : List ℕ) (to : ℕ) : Type 0 where
  pub terms : (A : TheLine) → line ≡ line_value A → length A.columns ≤ most_columns
      → (p ≤ length A.columns) × Wrote was start (spaced (take p A.columns)) is to
  pub next : to ≤ start + p * most_term_bytes
  pub size : length is ≡ length was
  pub within : p ≤ most_columns

pub none_put : (line : Line) (was : List ℕ) (start : ℕ) → FirstPut line was start 0 was start
unfolding spaced
none_put line was start =
    record { terms = λ A e few. (omega arith, wrote_none was start); next = omega arith; size = refl; within = omega arith }

value_used : (u : TheTerm) → (term_value u).mark ≡ 0 → ⊥
unfolding term_value
value_used u e = omega arith

module _ {line : Line} (A : TheLine) (e : line ≡ line_value A) (few : length A.columns ≤ most_columns) (p : ℕ) where
  -- an unused term stands behind the columns
  unused_behind : (term_at line p).mark ≡ 0 → length A.columns ≤ p
  unused_behind m = go (dec_lt p (length A.columns))
    where
      go : Dec (p < length A.columns) → length A.columns ≤ p
      go (yes h) = absurd (value_used (at A p) (rw (e, used A few p h) at m))
      go (no h) = omega arith

  -- and a used one is a column
  used_before : ((term_at line p).mark ≡ 0 → ⊥) → p < length A.columns
  unfolding unused_term
  used_before n = go (dec_lt p (length A.columns))
    where
      go : Dec (p < length A.columns) → p < length A.columns
      go (yes h) = h
      go (no h) = absurd (n (rw (e, unused A few p (omega arith))))

module _ {line : Line} {was is : List ℕ} {start p to : ℕ} (f : FirstPut line was start p is to) where
  -- no more columns
  ended : (A : TheLine) → line ≡ line_value A → length A.columns ≤ most_columns → length A.columns ≤ p
      → Wrote was start (spaced A.columns) is to
  ended A e few h = wrote_as (ap spaced (take_all p A.columns h)) (f.terms A e few).1

  pub put_unused : (term_at line p).mark ≡ 0 → TermsPut line was start is to
  put_unused m A e few = ended A e few (unused_behind A e few p m)

  -- one term more
  pub put_more : {is' : List ℕ} {r : ℕ} → ((term_at line p).mark ≡ 0 → ⊥) → p < most_columns → TermPut (term_at line p) is to is' r
      → r ≤ to + most_term_bytes → length is' ≡ length is → FirstPut line was start (p + 1) is' r
  put_more {is'} {r} n h w near same =
      record {
        terms = terms;
        next = omega (arith, f.next);
        size = same ∙ f.size;
        within = omega arith;
      }
    where
      terms : (A : TheLine) → line ≡ line_value A → length A.columns ≤ most_columns
          → (p + 1 ≤ length A.columns) × Wrote was start (spaced (take (p + 1) A.columns)) is' r
      terms A e few =
          let inside = used_before A e few p n in
          let here : term_at line p ≡ term_value (at A p) = ap (λ (l : Line). term_at l p) e ∙ used A few p inside in
          let bytes : spaced (take p A.columns) ++ space ∷ print_term (at A p) ≡ spaced (take (p + 1) A.columns)
          = sym (rw (add-one p, take-suc A.columns p (constant 0) inside) (spaced_more (take p A.columns) (at A p))) in
          (omega arith, wrote_as bytes (wrote_more (f.terms A e few).1 (w (at A p) here)))

-- ---- a line

-- the table, the terms and the end
pub line_put : {line : Line} {was a b is : List ℕ} {to i j r : ℕ} → Wrote was to (decimal line.table) a i → TermsPut line a i b j
    → Wrote b j (newline ∷ []) is r → LinePut line was to is r
unfolding line_value
line_put {line} v w n A e few =
    let table : decimal line.table ≡ decimal A.table = ap (λ (l : Line). decimal l.table) e in
    wrote_as (ap (λ (l : List ℕ). l ++ newline ∷ []) (sym (line_bytes A)))
    (wrote_more (wrote_more (wrote_as table v) (w A e few)) n)
